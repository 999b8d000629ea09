-- Lists, and the choices of a step among others.
use Rattle.std.proofs.Common.{◌≡◌, ℕ, zero, suc, ◌+◌, ◌<◌, ◌≤◌, List, [], ◌∷◌, ◌++◌, length, map, take, drop, get_or, Bool, true, false, Option, Some, None, refl, sym, ap, ◌∙◌, ◌-◌, add-one, append_assoc, arith}
use Rattle.std.specs.Prelude.{◌||◌, ◌==◌, if◌then◌else◌, option_and_then}
use Rattle.std.specs.Option.{option_map}
use Rattle.lin.specs.Forms.{Form}
use Rattle.lin.specs.Search.{is_empty}
use Rattle.lin.specs.declared.span.Span1.{Span1}
use Rattle.std.specs.List.{list_any}
use Rattle.std.proofs.Math.Seq.{drop-cons}
use Rattle.std.proofs.lemmas.List.{map-append, take_more, at_drop_all}
use Rattle.std.proofs.lemmas.Bool.Decides.{nat_tests}
use Rattle.soundness.specs.Obligations.{Binder, Ranged, Picked, Passed}
use Rattle.plan.specs.Semantics.Setting.{or_else}
use Rattle.tails.specs.declared.pending.Pending.{Pending}
use Rattle.tails.specs.Moves.{Choice, choices, behind, first_some, State, is_idle, after_idle, by_idle, after_guard, after_let, by_guard, by_let, is_free_let, without_let, next, run}
use Rattle.tails.specs.Held.{pending_of, pendings_of, others_at, guard_spans, let_spans}

or_assoc : (a b c : Bool) → (a || (b || c)) ≡ ((a || b) || c)
or_assoc true b c = refl
or_assoc false b c = refl

pub any_append : {A : Type 0} (p : A → Bool) (xs ys : List A) → list_any p (xs ++ ys) ≡ (list_any p xs || list_any p ys)
any_append p [] ys = refl
any_append p (x ∷ xs) ys = ap (λ b. p x || b) (any_append p xs ys) ∙ or_assoc (p x) (list_any p xs) (list_any p ys)

-- the choices from some step on
abbrev pub choices_from : List Binder → List Binder → List Choice
choices_from before [] = []
choices_from before (b ∷ bs) = record { one = b; others = before ++ bs } ∷ choices_from (before ++ b ∷ []) bs

abbrev pub chosen : Binder → List Binder → Choice
chosen b os = record { one = b; others = os }

abbrev put_before : List Binder → Choice → Choice
put_before before c = record { one = c.one; others = before ++ c.others }

put_twice : (before : List Binder) (b : Binder) (cs : List Choice) → map (put_before (before ++ b ∷ [])) cs ≡ map (put_before before) (map (behind b) cs)
put_twice before b [] = refl
put_twice before b (c ∷ cs) =
    ap (λ (os : List Binder). chosen c.one os ∷ map (put_before (before ++ b ∷ [])) cs) (append_assoc before (b ∷ []) c.others)
    ∙ ap (λ (ds : List Choice). chosen c.one (before ++ b ∷ c.others) ∷ ds) (put_twice before b cs)

from_are : (before bs : List Binder) → choices_from before bs ≡ map (put_before before) (choices bs)
from_are before [] = refl
from_are before (b ∷ bs) = ap (λ (cs : List Choice). chosen b (before ++ bs) ∷ cs) (from_are (before ++ b ∷ []) bs ∙ put_twice before b (choices bs))

put_none : (cs : List Choice) → map (put_before []) cs ≡ cs
put_none [] = refl
put_none (c ∷ cs) = ap (λ (ds : List Choice). c ∷ ds) (put_none cs)

pub from_all : (bs : List Binder) → choices_from [] bs ≡ choices bs
from_all bs = from_are [] bs ∙ put_none (choices bs)

-- a step and those before and after it
pub choice_next : (xs : List Pending) (k : ℕ) (x : Pending) → k < length xs → x ≡ get_or xs k x →
    choices_from (pendings_of (take k xs)) (pendings_of (drop k xs))
    ≡ chosen (pending_of x) (others_at xs k) ∷ choices_from (pendings_of (take (k + 1) xs)) (pendings_of (drop (k + 1) xs))
choice_next xs k x h is =
    ap (λ l. choices_from (pendings_of (take k xs)) (pendings_of l)) (drop-cons xs k x h ∙ ap (λ y. y ∷ drop (suc k) xs) (sym is))
    ∙ ap (λ (cs : List Choice). chosen (pending_of x) (others_at xs k) ∷ cs)
    (ap (λ l. choices_from l (pendings_of (drop (suc k) xs)))
    (sym (ap pendings_of (take_more xs k x h ∙ ap (λ y. take k xs ++ y ∷ []) (sym is)) ∙ map-append pending_of (take k xs) (x ∷ [])))
    ∙ ap (λ n. choices_from (pendings_of (take (k + 1) xs)) (pendings_of (drop n xs))) (sym (add-one k)))

pub choices_end : (xs : List Pending) (k : ℕ) → length xs ≤ k → (before : List Binder) → choices_from before (pendings_of (drop k xs)) ≡ []
choices_end xs k h before = ap (λ l. choices_from before (pendings_of l)) (at_drop_all (λ (l : List Pending). l) xs k h)

pub others_are : (xs : List Pending) (k : ℕ) → pendings_of (take k xs ++ drop (suc k) xs) ≡ others_at xs k
others_are xs k = map-append pending_of (take k xs) (drop (suc k) xs)

-- ---- the first step that may be taken

some_first : {A B : Type 0} (f : A → Option B) (x : A) (xs : List A) → f x ≡ None → first_some f (x ∷ xs) ≡ first_some f xs
some_first f x xs h = ap (λ o. or_else o (first_some f xs)) h

module _ (exact : Bool) (shows : Form → Form → Bool) (ys : List Span1) where
  abbrev pub left_with : List Binder → List Span1 → State
  left_with others zs = record { steps = others; spans = zs }

  guard_parts : (b : Binder) (others : List Binder) → after_guard exact shows ys b others ≡ option_map (left_with others) (guard_spans exact shows ys b others)
  guard_parts (Ranged i x) others = refl
  guard_parts (Picked i pick ls) others = refl
  guard_parts (Passed low high) others = refl

  let_case : (b : Bool) (o : Option (List Span1)) (others : List Binder) →
      (if b then option_map (left_with others) o else None) ≡ option_map (left_with others) (if b then o else None)
  let_case true o others = refl
  let_case false o others = refl

  let_parts : (b : Binder) (others : List Binder) → after_let exact shows ys b others ≡ option_map (left_with others) (let_spans exact shows ys b others)
  let_parts (Ranged i x) others = refl
  let_parts (Picked i pick ls) others = let_case (is_free_let exact shows i ls others) (without_let exact shows i pick ls ys) others
  let_parts (Passed low high) others = refl

  -- of those from number k on
  abbrev pub guards_from : List Pending → ℕ → Option State
  guards_from xs k = first_some (λ (c : Choice). after_guard exact shows ys c.one c.others) (choices_from (pendings_of (take k xs)) (pendings_of (drop k xs)))

  abbrev pub lets_from : List Pending → ℕ → Option State
  lets_from xs k = first_some (λ (c : Choice). after_let exact shows ys c.one c.others) (choices_from (pendings_of (take k xs)) (pendings_of (drop k xs)))

  pub guards_all : (xs : List Pending) → guards_from xs 0 ≡ by_guard exact shows (record { steps = pendings_of xs; spans = ys })
  guards_all xs = ap (first_some (λ (c : Choice). after_guard exact shows ys c.one c.others)) (from_all (pendings_of xs))

  pub lets_all : (xs : List Pending) → lets_from xs 0 ≡ by_let exact shows (record { steps = pendings_of xs; spans = ys })
  lets_all xs = ap (first_some (λ (c : Choice). after_let exact shows ys c.one c.others)) (from_all (pendings_of xs))

  pub guards_more : (xs : List Pending) (k : ℕ) (x : Pending) → k < length xs → x ≡ get_or xs k x → None ≡ guard_spans exact shows ys (pending_of x) (others_at xs k) →
      guards_from xs (k + 1) ≡ guards_from xs k
  guards_more xs k x h is none =
      sym (ap (first_some (λ (c : Choice). after_guard exact shows ys c.one c.others)) (choice_next xs k x h is)
      ∙ some_first (λ (c : Choice). after_guard exact shows ys c.one c.others) (chosen (pending_of x) (others_at xs k)) (choices_from (pendings_of (take (k + 1) xs)) (pendings_of (drop (k + 1) xs)))
      (guard_parts (pending_of x) (others_at xs k) ∙ ap (option_map (left_with (others_at xs k))) (sym none)))

  pub lets_more : (xs : List Pending) (k : ℕ) (x : Pending) → k < length xs → x ≡ get_or xs k x → None ≡ let_spans exact shows ys (pending_of x) (others_at xs k) →
      lets_from xs (k + 1) ≡ lets_from xs k
  lets_more xs k x h is none =
      sym (ap (first_some (λ (c : Choice). after_let exact shows ys c.one c.others)) (choice_next xs k x h is)
      ∙ some_first (λ (c : Choice). after_let exact shows ys c.one c.others) (chosen (pending_of x) (others_at xs k)) (choices_from (pendings_of (take (k + 1) xs)) (pendings_of (drop (k + 1) xs)))
      (let_parts (pending_of x) (others_at xs k) ∙ ap (option_map (left_with (others_at xs k))) (sym none)))

  pub guards_here : (xs : List Pending) (k : ℕ) (x : Pending) (zs : List Span1) → k < length xs → x ≡ get_or xs k x → Some zs ≡ guard_spans exact shows ys (pending_of x) (others_at xs k) →
      Some (left_with (others_at xs k) zs) ≡ guards_from xs k
  guards_here xs k x zs h is some =
      sym (ap (first_some (λ (c : Choice). after_guard exact shows ys c.one c.others)) (choice_next xs k x h is)
      ∙ ap (λ o. or_else o (first_some (λ (c : Choice). after_guard exact shows ys c.one c.others) (choices_from (pendings_of (take (k + 1) xs)) (pendings_of (drop (k + 1) xs)))))
      (guard_parts (pending_of x) (others_at xs k) ∙ ap (option_map (left_with (others_at xs k))) (sym some)))

  pub lets_here : (xs : List Pending) (k : ℕ) (x : Pending) (zs : List Span1) → k < length xs → x ≡ get_or xs k x → Some zs ≡ let_spans exact shows ys (pending_of x) (others_at xs k) →
      Some (left_with (others_at xs k) zs) ≡ lets_from xs k
  lets_here xs k x zs h is some =
      sym (ap (first_some (λ (c : Choice). after_let exact shows ys c.one c.others)) (choice_next xs k x h is)
      ∙ ap (λ o. or_else o (first_some (λ (c : Choice). after_let exact shows ys c.one c.others) (choices_from (pendings_of (take (k + 1) xs)) (pendings_of (drop (k + 1) xs)))))
      (let_parts (pending_of x) (others_at xs k) ∙ ap (option_map (left_with (others_at xs k))) (sym some)))

  pub guards_end : (xs : List Pending) (k : ℕ) → length xs ≤ k → None ≡ guards_from xs k
  guards_end xs k h = sym (ap (first_some (λ (c : Choice). after_guard exact shows ys c.one c.others)) (choices_end xs k h (pendings_of (take k xs))))

  pub lets_end : (xs : List Pending) (k : ℕ) → length xs ≤ k → None ≡ lets_from xs k
  lets_end xs k h = sym (ap (first_some (λ (c : Choice). after_let exact shows ys c.one c.others)) (choices_end xs k h (pendings_of (take k xs))))

module _ (ys : List Span1) where
  abbrev idle : Choice → Option State
  idle c = after_idle ys c.one c.others

  abbrev pub idles_from : List Pending → ℕ → Option State
  idles_from xs k = first_some idle (choices_from (pendings_of (take k xs)) (pendings_of (drop k xs)))

  pub idles_all : (xs : List Pending) → idles_from xs 0 ≡ by_idle (record { steps = pendings_of xs; spans = ys })
  idles_all xs = ap (first_some idle) (from_all (pendings_of xs))

  abbrev gone : List Pending → ℕ → Bool → Option State
  gone xs k v = if v then Some (record { steps = others_at xs k; spans = ys }) else None

  pub idles_more : (xs : List Pending) (k : ℕ) (x : Pending) → k < length xs → x ≡ get_or xs k x → false ≡ is_idle ys (pending_of x) (others_at xs k) →
      idles_from xs (k + 1) ≡ idles_from xs k
  idles_more xs k x h is none =
      sym (ap (first_some idle) (choice_next xs k x h is)
      ∙ some_first idle (chosen (pending_of x) (others_at xs k)) (choices_from (pendings_of (take (k + 1) xs)) (pendings_of (drop (k + 1) xs))) (ap (gone xs k) (sym none)))

  pub idles_here : (xs : List Pending) (k : ℕ) (x : Pending) → k < length xs → x ≡ get_or xs k x → true ≡ is_idle ys (pending_of x) (others_at xs k) →
      Some (record { steps = others_at xs k; spans = ys }) ≡ idles_from xs k
  idles_here xs k x h is said =
      sym (ap (first_some idle) (choice_next xs k x h is)
      ∙ ap (λ v. or_else (gone xs k v) (first_some idle (choices_from (pendings_of (take (k + 1) xs)) (pendings_of (drop (k + 1) xs))))) (sym said))

  pub idles_end : (xs : List Pending) (k : ℕ) → length xs ≤ k → None ≡ idles_from xs k
  idles_end xs k h = sym (ap (first_some idle) (choices_end xs k h (pendings_of (take k xs))))

-- ---- steps taken one after another

abbrev nothing_left : State → Option (List Span1)
nothing_left later = None

none_on : (o : Option State) → option_and_then nothing_left o ≡ None
none_on None = refl
none_on (Some a) = refl

none_left : (xs : List Pending) → (length xs == 0) ≡ is_empty (pendings_of xs)
none_left [] = refl
none_left (x ∷ xs) = grind (arith, nat_tests)

module _ (exact : Bool) (shows : Form → Form → Bool) (xs : List Pending) (ys : List Span1) where
  abbrev pub here : State
  here = record { steps = pendings_of xs; spans = ys }

  pub run_done : (n : ℕ) → (length xs == 0) ≡ true → Some ys ≡ run exact shows n here
  run_done zero h = sym (ap (λ b. if b then Some ys else option_and_then nothing_left (next exact shows here)) (sym (none_left xs) ∙ h))
  run_done (suc n) h = sym (ap (λ b. if b then Some ys else option_and_then (run exact shows n) (next exact shows here)) (sym (none_left xs) ∙ h))

  pub run_out : (n : ℕ) → n ≡ 0 → (length xs == 0) ≡ false → None ≡ run exact shows n here
  run_out zero e h = sym (ap (λ b. if b then Some ys else option_and_then nothing_left (next exact shows here)) (sym (none_left xs) ∙ h) ∙ none_on (next exact shows here))
  run_out (suc n) e h = absurd (omega arith)

  pub run_on : (n : ℕ) (later : State) → 0 < n → (length xs == 0) ≡ false → Some later ≡ next exact shows here → run exact shows (n - 1) later ≡ run exact shows n here
  run_on zero later e h is = absurd (omega arith)
  run_on (suc n) later e h is =
      let less : suc n - 1 ≡ n = omega arith in
      ap (λ (m : ℕ). run exact shows m later) less
      ∙ sym (ap (λ b. if b then Some ys else option_and_then (run exact shows n) (next exact shows here)) (sym (none_left xs) ∙ h) ∙ ap (option_and_then (run exact shows n)) (sym is))

  pub run_stuck : (n : ℕ) → 0 < n → (length xs == 0) ≡ false → None ≡ next exact shows here → None ≡ run exact shows n here
  run_stuck zero e h is = absurd (omega arith)
  run_stuck (suc n) e h is =
      sym (ap (λ b. if b then Some ys else option_and_then (run exact shows n) (next exact shows here)) (sym (none_left xs) ∙ h) ∙ ap (option_and_then (run exact shows n)) (sym is))

pub as_many : (xs : List Pending) → length (pendings_of xs) ≡ length xs
as_many [] = refl
as_many (x ∷ xs) = ap suc (as_many xs)
