-- Loops over the functions of an algorithm, turn by turn.
use Rattle.std.proofs.Common.{◌≡◌, ℕ, zero, suc, ◌+◌, ◌<◌, ◌≤◌, Bool, true, false, ◌&&◌, ◌||◌, List, [], ◌∷◌, ◌++◌, length, map, drop, drop-cons, add-one, get_or, Option, Some, None, refl, sym, ap, ◌∙◌, arith, string_bytes, append_assoc}
use Rattle.std.proofs.lemmas.Bool.{ltb-true, leb-true}
use Rattle.std.specs.Prelude.{slice_get, slice_index, nat_lt, IsAscii}
use Rattle.std.specs.List.{list_any, list_all}
use Rattle.std.specs.declared.string.String.{String}
use Rattle.std.specs.Global.{Global}
use Rattle.tree.specs.declared.expr.Expr.{Expr}
use Rattle.tree.specs.Term.{term_of, list_terms}
use Rattle.meaning.specs.Algorithm.{Change, Function, Algorithm}
use Rattle.algo.specs.declared.function.Range.{Range}
use Rattle.algo.specs.declared.function.Update.{Update}
use Rattle.algo.specs.declared.function.Function.{Function as Held}
use Rattle.algo.specs.Parts.{range_of, change_of, function_of}
use Rattle.sched.specs.declared.placing.Subject.{Subject}
use Rattle.sched.specs.Schedule.{Schedule}
use Rattle.sched.specs.Placing.{SubjectText, subject_of}
use Rattle.sched.specs.Subjects.{is_name, range_names, has_range_names, has_own_names, lacks, scattered_from, subject_said}
use Rattle.sched.proofs.Turns.{map_pushed}

-- ---- tests of each

pub names_all : (xs : List (String Global)) → list_all is_name (map string_bytes xs) ≡ list_all (λ x. is_name (string_bytes x)) xs
names_all [] = refl
names_all (x ∷ xs) = ap (λ (b : Bool). is_name (string_bytes x) && b) (names_all xs)

pub ranges_all : (ds : List Range) → list_all is_name (range_names (map range_of ds)) ≡ list_all (λ d. is_name (string_bytes d.variable)) ds
ranges_all [] = refl
ranges_all (d ∷ ds) = ap (λ (b : Bool). is_name (string_bytes d.variable) && b) (ranges_all ds)

pub updates_all : (us : List Update) → list_all has_range_names (map change_of us) ≡ list_all (λ u. has_range_names (change_of u)) us
updates_all [] = refl
updates_all (u ∷ us) = ap (λ (b : Bool). has_range_names (change_of u) && b) (updates_all us)

pub lacking_any : (x : List ℕ) (d : ℕ) (us : List Update) → list_any (lacks x d) (map change_of us) ≡ list_any (λ u. lacks x d (change_of u)) us
lacking_any x d [] = refl
lacking_any x d (u ∷ us) = ap (λ (b : Bool). lacks x d (change_of u) || b) (lacking_any x d us)

-- ---- left indices

pub index_found : (es : List Expr) (d : ℕ) (e : Expr) → slice_get es d ≡ Some e → slice_get (list_terms es) d ≡ Some (term_of e)
index_found [] zero e h = cc
index_found [] (suc d) e h = cc
index_found (x ∷ xs) zero e h = ap (λ (o : Option Expr). elim o [ Some y ↦ Some (term_of y) | None ↦ None ]) h
index_found (x ∷ xs) (suc d) e h = index_found xs d e h

pub index_missing : (es : List Expr) (d : ℕ) → slice_get es d ≡ None → slice_get (list_terms es) d ≡ None
index_missing [] zero h = refl
index_missing [] (suc d) h = refl
index_missing (x ∷ xs) zero h = cc
index_missing (x ∷ xs) (suc d) h = index_missing xs d h

-- ---- dimensions that some update lacks

-- the next dimension is one
pub scattered_next : (us : List Change) (xs : List (String Global)) (i : ℕ) (d : String Global) → i < length xs → list_any (lacks (string_bytes (get_or xs i d)) i) us ≡ true → scattered_from us i (map string_bytes (drop i xs)) ≡ i ∷ scattered_from us (i + 1) (map string_bytes (drop (i + 1) xs))
scattered_next us xs i d lt h = rw (drop-cons xs i d lt, add-one, h) refl

-- or it is not
pub scattered_not : (us : List Change) (xs : List (String Global)) (i : ℕ) (d : String Global) → i < length xs → list_any (lacks (string_bytes (get_or xs i d)) i) us ≡ false → scattered_from us i (map string_bytes (drop i xs)) ≡ scattered_from us (i + 1) (map string_bytes (drop (i + 1) xs))
scattered_not us xs i d lt h = rw (drop-cons xs i d lt, add-one, h) refl

-- ---- names

pub both : (a b : Bool) → (a && b) ≡ true → (a ≡ true) × (b ≡ true)
both true true h = (refl, refl)
both true false h = cc
both false true h = cc
both false false h = cc

ascii_at : (bs : List ℕ) (i : ℕ) → list_all (λ b. nat_lt b 128) bs ≡ true → slice_index bs i < 128
ascii_at [] zero h = omega arith
ascii_at [] (suc i) h = omega arith
ascii_at (b ∷ bs) zero h = ltb-true b 128 (both _ _ h).0
ascii_at (b ∷ bs) (suc i) h = ascii_at bs i (both _ _ h).1

pub name_is_short : (x : List ℕ) → is_name x ≡ true → length x ≤ 16
name_is_short x h = leb-true (length x) 16 (both _ _ h).0

pub name_is_ascii : (x : List ℕ) → is_name x ≡ true → IsAscii x
name_is_ascii x h = λ i. ascii_at x i (both _ _ h).1

-- the next name is one, and so are the others
pub named_here : (xs : List (String Global)) (i : ℕ) (d : String Global) → i < length xs → list_all is_name (map string_bytes (drop i xs)) ≡ true → is_name (string_bytes (get_or xs i d)) ≡ true
named_here xs i d lt h = let e = rw (drop-cons xs i d lt) at h in (both _ _ e).0

pub named_later : (xs : List (String Global)) (i : ℕ) (d : String Global) → i < length xs → list_all is_name (map string_bytes (drop i xs)) ≡ true → list_all is_name (map string_bytes (drop (i + 1) xs)) ≡ true
named_later xs i d lt h = let e = rw (drop-cons xs i d lt) at h in rw add-one (both _ _ e).1

pub range_here : (xs : List Range) (i : ℕ) (d : Range) → i < length xs → list_all is_name (range_names (map range_of (drop i xs))) ≡ true → is_name (string_bytes (get_or xs i d).variable) ≡ true
range_here xs i d lt h = let e = rw (drop-cons xs i d lt) at h in (both _ _ e).0

pub range_later : (xs : List Range) (i : ℕ) (d : Range) → i < length xs → list_all is_name (range_names (map range_of (drop i xs))) ≡ true → list_all is_name (range_names (map range_of (drop (i + 1) xs))) ≡ true
range_later xs i d lt h = let e = rw (drop-cons xs i d lt) at h in rw add-one (both _ _ e).1

pub update_here : (xs : List Update) (i : ℕ) (d : Update) → i < length xs → list_all has_range_names (map change_of (drop i xs)) ≡ true → has_range_names (change_of (get_or xs i d)) ≡ true
update_here xs i d lt h = let e = rw (drop-cons xs i d lt) at h in (both _ _ e).0

pub update_later : (xs : List Update) (i : ℕ) (d : Update) → i < length xs → list_all has_range_names (map change_of (drop i xs)) ≡ true → list_all has_range_names (map change_of (drop (i + 1) xs)) ≡ true
update_later xs i d lt h = let e = rw (drop-cons xs i d lt) at h in rw add-one (both _ _ e).1

-- ---- functions by number

abbrev pub Entry : Type 0
Entry = String Global × Held

drop_at : (es : List Entry) (k : ℕ) (e : Entry) → slice_get es k ≡ Some e → drop k es ≡ e ∷ drop (suc k) es
drop_at [] zero e h = cc
drop_at [] (suc k) e h = cc
drop_at (x ∷ xs) zero e h = ap (λ (o : Option Entry). elim o [ Some y ↦ y ∷ xs | None ↦ [] ]) h
drop_at (x ∷ xs) (suc k) e h = drop_at xs k e h

pub entry_here : (es : List Entry) (k : ℕ) (e : Entry) → slice_get es k ≡ Some e → list_all has_own_names (map function_of (drop k es)) ≡ true → has_own_names (function_of e) ≡ true
entry_here es k e at h = let all = rw (drop_at es k e at) at h in (both _ _ all).0

pub entry_later : (es : List Entry) (k : ℕ) (e : Entry) → slice_get es k ≡ Some e → list_all has_own_names (map function_of (drop k es)) ≡ true → list_all has_own_names (map function_of (drop (k + 1) es)) ≡ true
entry_later es k e at h = let all = rw (drop_at es k e at) at h in rw add-one (both _ _ all).1

pub entry_passes : (es : List Entry) (k : ℕ) (e : Entry) → slice_get es k ≡ Some e → has_own_names (function_of e) ≡ true → list_all has_own_names (map function_of (drop (k + 1) es)) ≡ list_all has_own_names (map function_of (drop k es))
entry_passes es k e at h = rw (drop_at es k e at, h, add-one) refl

pub entry_fails : (es : List Entry) (k : ℕ) (e : Entry) → slice_get es k ≡ Some e → has_own_names (function_of e) ≡ false → list_all has_own_names (map function_of (drop k es)) ≡ false
entry_fails es k e at h = rw (drop_at es k e at, h) refl

pub entry_said : (a : Algorithm) (s : Schedule) (es : List Entry) (k : ℕ) (e : Entry) → slice_get es k ≡ Some e → map (subject_said a s) (map function_of (drop k es)) ≡ subject_said a s (function_of e) ∷ map (subject_said a s) (map function_of (drop (k + 1) es))
entry_said a s es k e at = rw (drop_at es k e at, add-one) refl

-- one more, seen by m
pushed_on : {X Y : Type 0} (m : X → Y) (found pushed : List X) (one : X) (y : Y) (rest whole : List Y) → m one ≡ y → pushed ≡ found ++ one ∷ [] → map m found ++ y ∷ rest ≡ whole → map m pushed ++ rest ≡ whole
pushed_on m found pushed one y rest whole is was h =
    let grown : map m pushed ≡ map m found ++ m one ∷ [] = ap (map m) was ∙ map_pushed m found one in
    rw (grown, append_assoc (map m found) (m one ∷ []) rest, is) h

-- what is known of the next function is added
pub subject_pushed : (a : Algorithm) (s : Schedule) (es : List Entry) (k : ℕ) (e : Entry) → slice_get es k ≡ Some e → (found : List Subject) (one : Subject) (pushed : List Subject) (whole : List SubjectText) → subject_of one ≡ subject_said a s (function_of e) → pushed ≡ found ++ one ∷ [] → map subject_of found ++ map (subject_said a s) (map function_of (drop k es)) ≡ whole → map subject_of pushed ++ map (subject_said a s) (map function_of (drop (k + 1) es)) ≡ whole
subject_pushed a s es k e at found one pushed whole is was h =
    let rest = map (subject_said a s) (map function_of (drop (k + 1) es)) in
    let next = ap (λ (ys : List SubjectText). map subject_of found ++ ys) (entry_said a s es k e at) in
    pushed_on subject_of found pushed one (subject_said a s (function_of e)) rest whole is was (sym next ∙ h)

-- the name of the next function is added
pub name_pushed : (es : List Entry) (k : ℕ) (e : Entry) → slice_get es k ≡ Some e → (found pushed : List (List ℕ)) (one : List ℕ) (whole : List (List ℕ)) → one ≡ string_bytes e.0 → pushed ≡ found ++ one ∷ [] → found ++ map (λ f. Function.name f) (map function_of (drop k es)) ≡ whole → pushed ++ map (λ f. Function.name f) (map function_of (drop (k + 1) es)) ≡ whole
name_pushed es k e at found pushed one whole is was h =
    let rest = map (λ f. Function.name f) (map function_of (drop (k + 1) es)) in
    let next : map (λ f. Function.name f) (map function_of (drop k es)) ≡ string_bytes e.0 ∷ rest = rw (drop_at es k e at, add-one) refl in
    rw (was, append_assoc found (one ∷ []) rest, is) (ap (λ (ys : List (List ℕ)). found ++ ys) (sym next) ∙ h)

-- ---- the names of one function

pub own_name : (f : Function) → has_own_names f ≡ true → is_name f.name ≡ true
own_name f h = (both _ _ (both _ _ h).0).0

pub own_variables : (f : Function) → has_own_names f ≡ true → list_all is_name f.variables ≡ true
own_variables f h = (both _ _ (both _ _ h).0).1

pub own_ranges : (f : Function) → has_own_names f ≡ true → list_all has_range_names f.changes ≡ true
own_ranges f h = (both _ _ h).1
