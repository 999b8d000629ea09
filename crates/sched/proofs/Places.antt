-- What stands at a place of a list.
use Rattle.std.proofs.Common.{◌≡◌, ℕ, suc, ◌+◌, ◌-◌, ◌<◌, ◌≤◌, List, [], ◌∷◌, ◌++◌, map, Option, Some, None, refl, sym, ap, ◌∙◌, append_assoc, append-nil, add-one, arith}
use Rattle.std.proofs.lemmas.List.{map-append}
use Rattle.std.proofs.lemmas.Option.{slice_get-map}
use Rattle.std.specs.Prelude.{slice_get}
use Rattle.std.specs.Option.{option_map}
use Rattle.tree.specs.declared.expr.Expr.{Expr}
use Rattle.tree.specs.Term.{Term, term_of}
use Rattle.meaning.specs.Algorithm.{Change, Range}
use Rattle.algo.specs.declared.function.Update.{Update}
use Rattle.algo.specs.Parts.{change_of, range_of}
use Rattle.sched.specs.declared.definitions.Formula.{Formula}
use Rattle.sched.specs.Stored.{formula_of, left_at}
use Rattle.sched.specs.Around.{ranges_of}
use Rattle.sched.specs.Regions.{symbols_from}

-- ---- lists

-- what a list holds behind one more entry
pub pushed : {A B : Type 0} (f : A → B) (xs : List A) (x : A) (ys : List B) → map f (xs ++ x ∷ []) ++ ys ≡ map f xs ++ (f x ∷ ys)
pushed {B = B} f xs x ys = ap (λ (l : List B). l ++ ys) (map-append f xs (x ∷ [])) ∙ append_assoc (map f xs) (f x ∷ []) ys

-- ---- symbols

left_is : (n i : ℕ) → i < n → n - i ≡ suc (n - (i + 1))
left_is n i lt = omega arith

none_left : (n i : ℕ) → n ≤ i → n - i ≡ 0
none_left n i le = omega arith

symbol_next : (n i : ℕ) → i < n → symbols_from i (n - i) ≡ i ∷ symbols_from (i + 1) (n - (i + 1))
symbol_next n i lt = rw (left_is n i lt) refl

pub symbols_next : (xs : List ℕ) (n i : ℕ) → i < n → (xs ++ i ∷ []) ++ symbols_from (i + 1) (n - (i + 1)) ≡ xs ++ symbols_from i (n - i)
symbols_next xs n i lt = append_assoc xs (i ∷ []) (symbols_from (i + 1) (n - (i + 1))) ∙ ap (λ ys. xs ++ ys) (sym (symbol_next n i lt))

pub symbols_none : (xs : List ℕ) (n i : ℕ) → n ≤ i → xs ++ symbols_from i (n - i) ≡ xs
symbols_none xs n i le = rw (none_left n i le) (append-nil xs)

-- ---- left indices

abbrev place_of : Option (Option Term) → Option Term
place_of (Some o) = o
place_of None = None

pub left_found : (f : Formula) (d : ℕ) (o : Option Expr) → slice_get f.at.items d ≡ Some o → left_at (formula_of f) d ≡ option_map term_of o
left_found f d o h = ap place_of (slice_get-map (option_map term_of) f.at.items d ∙ ap (option_map (option_map term_of)) h)

pub left_missing : (f : Formula) (d : ℕ) → slice_get f.at.items d ≡ None → left_at (formula_of f) d ≡ None
left_missing f d h = ap place_of (slice_get-map (option_map term_of) f.at.items d ∙ ap (option_map (option_map term_of)) h)

-- ---- reduction variables

abbrev ranges_by : Option Change → List Range
ranges_by (Some u) = u.ranges
ranges_by None = []

pub ranges_pure : (us : List Update) (d : ℕ) → d ≡ 0 → ranges_of (map change_of us) d ≡ []
ranges_pure us d h = rw (h) refl

ranges_next : (us : List Update) (k : ℕ) (o : Option Update) → slice_get us k ≡ o → ranges_of (map change_of us) (suc k) ≡ ranges_by (option_map change_of o)
ranges_next us k o h = ap ranges_by (slice_get-map change_of us k ∙ ap (option_map change_of) h)

pub ranges_found : (us : List Update) (d k : ℕ) (u : Update) → d ≡ k + 1 → slice_get us k ≡ Some u → ranges_of (map change_of us) d ≡ map range_of u.ranges.items
ranges_found us d k u e h = rw (e, add-one) (ranges_next us k (Some u) h)

pub ranges_missing : (us : List Update) (d k : ℕ) → d ≡ k + 1 → slice_get us k ≡ None → ranges_of (map change_of us) d ≡ []
ranges_missing us d k e h = rw (e, add-one) (ranges_next us k None h)
