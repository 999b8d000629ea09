-- Claims that a window hands on from turn to turn.
use Rattle.std.proofs.Common.{◌≡◌, ℕ, zero, suc, ◌+◌, Bool, true, false, List, [], ◌∷◌, ◌++◌, map, Option, Some, None, refl, sym, ap, ◌∙◌, subst, inl, inr, arith}
use Rattle.std.specs.Prelude.{ℤ, pos, ◌+ℤ◌, ◌-ℤ◌, ◌≤ℤ◌, ◌<ℤ◌, IsSome, ◌==◌, ◌&&◌, ◌||◌, if◌then◌else◌, ◌⊎◌, flat_map, int_le}
use Rattle.std.proofs.lemmas.Int.{ints}
use Rattle.lin.specs.declared.span.Span1.{Span1}
use Rattle.meaning.specs.Names.{same_point}
use Rattle.plan.specs.declared.stmt.Kind.{Kind}
use Rattle.plan.specs.Plan.{Statement, For}
use Rattle.plan.specs.Symbols.{Symbols, bind, clipped, smallest, rising, turns, largest, InRegion}
use Rattle.plan.specs.Rooms.{Room, place}
use Rattle.plan.specs.Semantics.Actions.{Setting, Action, Allot, Take, Put, Change, Give, actions}
use Rattle.plan.specs.Semantics.Memory.{place_in}
use Rattle.soundness.specs.Origins.{Given, windowed}
use Rattle.soundness.specs.Claims.{In, written, WritesOnly, EachTurn, Fact, Scope, choose_facts, status_after, changes, stable, keep, advanced, is_written, is_updated, handed_on, left, in_turn, turn_symbols, IsSound, buffer_of, function_of, InFactRegion, InForce, Earlier, Before, IsMade}
use Rattle.soundness.proofs.Learned.{point_refl}
use Rattle.soundness.proofs.Turns.{each_turn}
use Rattle.soundness.proofs.Folds.{Near, near_apart}
use Rattle.soundness.proofs.Written.{in_append_right}

-- all that is done to the buffer are pure stores of the function
abbrev pub Fills : ℕ → List ℕ → List Action → Type 0
Fills b f [] = Unit {0}
Fills b f (Allot c rooms ∷ later) = (c == b) ≡ false × Fills b f later
Fills b f (Take c g p ∷ later) = (c == b) ≡ false × Fills b f later
Fills b f (Put c g names p e ∷ later) = ((c == b) ≡ true → g ≡ f) × Fills b f later
Fills b f (Change c g k names at over e ∷ later) = (c == b) ≡ false × Fills b f later
Fills b f (Give c p ∷ later) = Fills b f later

pub fills_append : (b : ℕ) (f : List ℕ) (xs ys : List Action) → Fills b f xs → Fills b f ys → Fills b f (xs ++ ys)
fills_append b f [] ys p q = q
fills_append b f (Allot c rooms ∷ later) ys p q = (p.0, fills_append b f later ys p.1 q)
fills_append b f (Take c g x ∷ later) ys p q = (p.0, fills_append b f later ys p.1 q)
fills_append b f (Put c g names x e ∷ later) ys p q = (p.0, fills_append b f later ys p.1 q)
fills_append b f (Change c g k names at over e ∷ later) ys p q = (p.0, fills_append b f later ys p.1 q)
fills_append b f (Give c x ∷ later) ys p q = fills_append b f later ys p q

pub fills_turns : {A : Type 0} (b : ℕ) (f : List ℕ) (g : A → List Action) → ((a : A) → Fills b f (g a)) → (xs : List A) → Fills b f (flat_map g xs)
fills_turns b f g h [] = tt
fills_turns b f g h (x ∷ xs) = fills_append b f (g x) (flat_map g xs) (h x) (fills_turns b f g h xs)

pub fills_loop : (setting : Setting) (b : ℕ) (f : List ℕ) (i : ℕ) (x : Span1) (kind : Kind) (body : Statement) (s : Symbols) → ((t : Symbols) → Fills b f (actions setting body t)) → Fills b f (actions setting (For i x kind body) s)
fills_loop setting b f i x kind body s h = fills_turns b f (λ z. actions setting body (bind s i z (int_le z (largest s x.lower)))) (λ z. h _) (turns s x)

not_here : {A : Type 0} (v : Bool) → v ≡ false → v ≡ true → A
not_here v h k = absurd (cc (h, k))

pub fills_only : (b : ℕ) (f : List ℕ) (xs : List Action) → Fills b f xs → WritesOnly b f xs
fills_only b f [] h = tt
fills_only b f (Allot c rooms ∷ later) h = (h.0, fills_only b f later h.1)
fills_only b f (Take c g x ∷ later) h = (not_here (c == b) h.0, fills_only b f later h.1)
fills_only b f (Put c g names x e ∷ later) h = (h.0, fills_only b f later h.1)
fills_only b f (Change c g k names at over e ∷ later) h = (not_here (c == b) h.0, fills_only b f later h.1)
fills_only b f (Give c x ∷ later) h = fills_only b f later h

module _ (given : Given) where
  same_both : (v : Bool) (a : Option ℕ) → (if v then a else a) ≡ a
  same_both true a = refl
  same_both false a = refl

  -- a point that has its pure value keeps it
  pub fills_stay : (b : ℕ) (f : List ℕ) (p : List ℤ) (xs : List Action) → Fills b f xs → status_after given b p xs (Some 0) ≡ Some 0
  fills_stay b f p [] h = refl
  fills_stay b f p (Allot c rooms ∷ later) h = rw h.0 (fills_stay b f p later h.1)
  fills_stay b f p (Take c g x ∷ later) h = rw h.0 (fills_stay b f p later h.1)
  fills_stay b f p (Put c g names x e ∷ later) h = ap (status_after given b p later) (same_both ((c == b) && same_point x p) (Some 0)) ∙ fills_stay b f p later h.1
  fills_stay b f p (Change c g k names at over e ∷ later) h = rw h.0 (fills_stay b f p later h.1)
  fills_stay b f p (Give c x ∷ later) h = fills_stay b f p later h

  unwritten : (v : Bool) (p x : List ℤ) (ys : List (List ℤ)) → v ≡ false → In p (if v then x ∷ ys else ys) → In p ys
  unwritten true p x ys e m = absurd (cc e)
  unwritten false p x ys e m = m

  -- a point that is written gets its pure value
  pub fills_make : (b : ℕ) (f : List ℕ) (p : List ℤ) (xs : List Action) (st : Option ℕ) → Fills b f xs → In p (written b xs) → status_after given b p xs st ≡ Some 0
  fills_make b f p [] st h m = absurd m
  fills_make b f p (Allot c rooms ∷ later) st h m = fills_make b f p later _ h.1 m
  fills_make b f p (Take c g x ∷ later) st h m = rw h.0 (fills_make b f p later st h.1 (unwritten (c == b) p x (written b later) h.0 m))
  fills_make b f p (Put c g names x e ∷ later) st h m = at (c == b) m (λ st k. fills_make b f p later st h.1 k)
    where
      at : (v : Bool) → In p (if v then x ∷ written b later else written b later) → ((st : Option ℕ) → In p (written b later) → status_after given b p later st ≡ Some 0) →
          status_after given b p later (if v && same_point x p then Some 0 else st) ≡ Some 0
      at true (inl e) rest =
          let same : same_point x p ≡ true = ap (λ y. same_point x y) e ∙ point_refl x in
          rw same (fills_stay b f p later h.1)
      at true (inr n) rest = rest _ n
      at false n rest = rest _ n
  fills_make b f p (Change c g k names at over e ∷ later) st h m = fills_make b f p later _ h.1 m
  fills_make b f p (Give c x ∷ later) st h m = fills_make b f p later st h m

  -- A claim of a pure definition: each point of its region is written now, or was known before; and each point that is
  -- written is near each point of the region.
  pub window_made : (c : ℕ) (todo : List Action) (sc : Scope) (rs : List Room) →
      given.steps (given.outline.claim c).function (given.outline.claim c).definition ≡ 0 → sc.rooms (given.outline.claim c).buffer ≡ Some rs →
      Fills (given.outline.claim c).buffer (given.outline.claim c).function todo →
      ((p : List ℤ) → InRegion sc.symbols (given.outline.claim c).region p →
      IsSome (place rs p)
      × (In p (written (given.outline.claim c).buffer todo) ⊎ Earlier given sc.facts (given.outline.claim c).buffer (given.outline.claim c).function p 0)
      × ((x : List ℤ) → In x (written (given.outline.claim c).buffer todo) → Near rs p x)) →
      IsMade given c todo sc
  window_made c todo sc rs pure space fills each = record {
    has_room = rw space refl;
    only = fills_only _ _ todo fills;
    clear = λ p m x n e.
        let h = each p m in
        near_apart rs p x (h.2 x n) h.0 (sym (ap (λ o. place_in o p) space) ∙ e ∙ ap (λ o. place_in o x) space);
    covers = λ p m. let h = each p m in from p h.1;
  }
    where
      b : ℕ
      b = (given.outline.claim c).buffer

      from : (p : List ℤ) → In p (written (given.outline.claim c).buffer todo) ⊎ Earlier given sc.facts (given.outline.claim c).buffer (given.outline.claim c).function p 0 →
          (st : Option ℕ) × Before given sc.facts (given.outline.claim c).buffer (given.outline.claim c).function p st
          × (status_after given (given.outline.claim c).buffer p todo st ≡ Some (given.steps (given.outline.claim c).function (given.outline.claim c).definition))
      from p (inl n) = (None, tt, fills_make _ _ p todo None fills n ∙ ap Some (sym pure))
      from p (inr k) = (Some 0, k, fills_stay _ _ p todo fills ∙ ap Some (sym pure))

module _ (given : Given) where
  -- what a fact of the list says is in force, and known
  pub force_of : (hs : List Fact) (h : Fact) (c : ℕ) (p : List ℤ) (d : ℕ) → In h hs → h.claim ≡ c → InFactRegion given h p → h.done p ≡ Some d → InForce given hs c p d
  force_of [] h c p d m e i k = absurd m
  force_of (g ∷ hs) h c p d (inl n) e i k = inl (subst (λ (x : Fact). (x.claim ≡ c) × InFactRegion given x p × (x.done p ≡ Some d)) n (e, i, k))
  force_of (g ∷ hs) h c p d (inr n) e i k = inr (force_of hs h c p d n e i k)

  pub earlier_of : (hs : List Fact) (h : Fact) (p : List ℤ) (d : ℕ) → In h hs → InFactRegion given h p → h.done p ≡ Some d → Earlier given hs (buffer_of given h) (function_of given h) p d
  earlier_of [] h p d m i k = absurd m
  earlier_of (g ∷ hs) h p d (inl n) i k =
      inl (subst (λ (x : Fact). (buffer_of given x ≡ buffer_of given h) × (function_of given x ≡ function_of given h) × InFactRegion given x p × (x.done p ≡ Some d)) n (refl, refl, i, k))
  earlier_of (g ∷ hs) h p d (inr n) i k = inr (earlier_of hs h p d n i k)

pub in_chosen : (test : Fact → Bool) (h : Fact) (hs : List Fact) → In h hs → test h ≡ true → In h (choose_facts test hs)
in_chosen test h [] m e = absurd m
in_chosen test h (g ∷ hs) (inl n) e = subst (λ (x : Fact). In h (if test x then x ∷ choose_facts test hs else choose_facts test hs)) n (of (test h) e)
  where
    of : (v : Bool) → v ≡ true → In h (if v then h ∷ choose_facts test hs else choose_facts test hs)
    of true k = inl refl
    of false k = absurd (cc k)
in_chosen test h (g ∷ hs) (inr n) e = of (test g) (in_chosen test h hs n e)
  where
    of : (v : Bool) → In h (choose_facts test hs) → In h (if v then g ∷ choose_facts test hs else choose_facts test hs)
    of true k = inr k
    of false k = k

-- the turns of a span whose ends are known
pub turns_rising : (s : Symbols) (x : Span1) (low : ℤ) (n : ℕ) → largest s x.lower ≡ low → (smallest s x.upper +ℤ pos 1) -ℤ low ≡ pos n → turns s x ≡ rising low n
turns_rising s x low n e f = ap (λ l. rising l (clipped ((smallest s x.upper +ℤ pos 1) -ℤ l))) e ∙ ap (λ w. rising low (clipped w)) f

-- turns of which each hands something on to the next
pub turns_hand_on : (P : ℤ → List Fact → Type 0) (next : ℤ → List Fact → List Fact) (H : ℤ → List Fact → Type 0) (n : ℕ) (low : ℤ) (carried : List Fact) → H low carried →
    ((z : ℤ) (c : List Fact) → low ≤ℤ z → z <ℤ (low +ℤ pos n) → H z c → P z c × H (z +ℤ pos 1) (next z c)) → EachTurn P next carried (rising low n)
turns_hand_on P next H zero low carried h step = tt
turns_hand_on P next H (suc n) low carried h step =
    let now = step low carried (omega (arith, ints)) (omega (arith, ints)) h in
    (now.0, turns_hand_on P next H n (low +ℤ pos 1) (next low carried) now.1 (λ z c l k. step z c (omega (arith, ints)) (omega (arith, ints))))

module _ (given : Given) where
  -- a fact whose buffer the statement leaves alone stays
  pub stable_has : (a : Statement) (h : Fact) (hs : List Fact) → In h hs → changes a (buffer_of given h) ≡ false → In h (stable given a hs)
  stable_has a h hs m e = in_chosen (λ k. if changes a (buffer_of given k) then false else true) h hs m (ap (λ v. if v then false else true) e)

  pub keep_has : (a : Statement) (todo : List Action) (rooms : ℕ → Option (List Room)) (h : Fact) (hs : List Fact) → In h hs → changes a (buffer_of given h) ≡ false → In h (keep given a todo rooms hs)
  keep_has a todo rooms h hs m e =
      in_append_right h (map (advanced given todo rooms) (choose_facts (is_written given a) hs)) (stable given a hs) (stable_has a h hs m e)

  -- a window's fact is handed on
  pub handed_has : (i : ℕ) (body : Statement) (h : Fact) (hs : List Fact) → In h hs → windowed given.outline i h.claim ≡ true → In h (handed_on given i body hs)
  handed_has i body h hs m e = in_chosen (λ k. windowed given.outline i k.claim || is_updated given body k) h hs m (ap (λ v. v || is_updated given body h) e)

  -- a loop whose turns need nothing of one another
  pub loop_sound : (i : ℕ) (x : Span1) (kind : Kind) (body : Statement) (line : ℕ) (sc : Scope) →
      ((z : ℤ) → In z (turns sc.symbols x) → (c : List Fact) → IsSound given body (line + 1) (in_turn given (turn_symbols given sc.symbols i (largest sc.symbols x.lower) z) body sc c)) →
      IsSound given (For i x kind body) line sc
  loop_sound i x kind body line sc h =
      each_turn
      (λ z c. IsSound given body (line + 1) (in_turn given (turn_symbols given sc.symbols i (largest sc.symbols x.lower) z) body sc c))
      (λ z c. handed_on given i body (left given body (line + 1) (in_turn given (turn_symbols given sc.symbols i (largest sc.symbols x.lower) z) body sc c)))
      (turns sc.symbols x) (choose_facts (is_updated given body) sc.facts) h

  -- a loop whose turns hand something on
  pub loop_hands_on : (i : ℕ) (x : Span1) (kind : Kind) (body : Statement) (line : ℕ) (sc : Scope) (H : ℤ → List Fact → Type 0) (n : ℕ) (low : ℤ) → turns sc.symbols x ≡ rising low n →
      H low (choose_facts (is_updated given body) sc.facts) →
      ((z : ℤ) (c : List Fact) → low ≤ℤ z → z <ℤ (low +ℤ pos n) → H z c →
      IsSound given body (line + 1) (in_turn given (turn_symbols given sc.symbols i (largest sc.symbols x.lower) z) body sc c)
      × H (z +ℤ pos 1) (handed_on given i body (left given body (line + 1) (in_turn given (turn_symbols given sc.symbols i (largest sc.symbols x.lower) z) body sc c)))) →
      IsSound given (For i x kind body) line sc
  loop_hands_on i x kind body line sc H n low same start step =
      let P : ℤ → List Fact → Type 0 = λ z c. IsSound given body (line + 1) (in_turn given (turn_symbols given sc.symbols i (largest sc.symbols x.lower) z) body sc c) in
      let next : ℤ → List Fact → List Fact = λ z c. handed_on given i body (left given body (line + 1) (in_turn given (turn_symbols given sc.symbols i (largest sc.symbols x.lower) z) body sc c)) in
      subst (λ zs. EachTurn P next (choose_facts (is_updated given body) sc.facts) zs) (sym same) (turns_hand_on P next H n low (choose_facts (is_updated given body) sc.facts) start step)
