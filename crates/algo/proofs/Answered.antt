-- From what the tests of expressions answer to the conditions on statements, and back.
use Rattle.std.proofs.Common.{◌≡◌, ℕ, ◌+◌, ◌<◌, ◌≤◌, inl, inr, List, [], ◌∷◌, ◌++◌, length, map, take, get_or, Option, Some, None, IsNone, MatchOption, ◌↔◌, refl, sym, ap, ◌∙◌, subst, arith}
use Rattle.std.proofs.Math.Seq.{take-append_seam}
use Rattle.std.proofs.lemmas.List.{map_more, take-append-le}
use Rattle.std.proofs.lemmas.List.Sums.{fold-append}
use Rattle.meaning.specs.Algorithm.{Function, Algorithm}
use Rattle.expr.specs.Statements.Text.{UpdateText, StatementText}
use Rattle.algo.specs.declared.error.Code.TheVariants.{Limit}
use Rattle.algo.specs.Saying.{after_statement, functions_said, FollowsFunction, FollowFunctions}
use Rattle.algo.proofs.Kept.{pushed_cases}
use Rattle.tree.specs.declared.expr.Expr.{Expr}
use Rattle.tree.specs.Term.{Term, list_terms, indices}
use Rattle.tree.specs.Typing.{index_count}
use Rattle.algo.specs.declared.error.Code.{Code}
use Rattle.algo.specs.declared.error.AlgoError.{AlgoError}
use Rattle.algo.specs.declared.error.AlgoError.TheVariants.{Memory, Refused}
use Rattle.algo.specs.Keeping.{Breaks, OnLimit, DomainLimits, KeepsUpdateOver}

-- what breaks a weaker condition breaks a stronger one
pub breaks-weaker : (P Q : Code → Type 0) (e : AlgoError) → ((code : Code) → Q code → P code) → Breaks P e → Breaks Q e
breaks-weaker P Q Memory w h = tt
breaks-weaker P Q (Refused code place) w h = λ q. h (w code q)

-- want of memory breaks nothing
pub breaks-memory : (P : Code → Type 0) (e : AlgoError) → e ≡ Memory → Breaks P e
breaks-memory P e h = subst (Breaks P) (sym h) tt

-- as many indices as expressions
pub index_count_terms : (at : List Expr) → index_count (indices (list_terms at)) ≡ length at
index_count_terms [] = refl
index_count_terms (a ∷ rest) = let h : index_count (indices (list_terms rest)) ≡ length rest = index_count_terms rest in omega arith

pub on_limit : (P Q : Type 0) → (Q → P) → (code : Code) → OnLimit Q code → OnLimit P code
on_limit P Q w Limit q = w q
on_limit P Q w _ q = tt

-- the domain's limits are among those of an update
pub limit_of : (a : Algorithm) (declared : List (List ℕ)) (before : List Function) (f : Function) (fs : List Function) (s : UpdateText Term) (code : Code) → KeepsUpdateOver a declared before f fs code s → OnLimit (DomainLimits s.domains) code
limit_of a declared before f fs s Limit k = k.domain
limit_of a declared before f fs s _ k = tt

pub match_none : {X : Type 0} (r : Option X) (P Q : Type 0) → IsNone r ↔ P → (P → Q) → (Q → P) → MatchOption r Q (λ _. ¬ Q)
match_none None P Q h to from = to (h.0 refl)
match_none (Some x) P Q h to from = λ q. let none : IsNone (Some x) = h.1 (from q) in cc

-- ---- the statements one by one

pub functions_said-more : {A : Type 0} (f : A → StatementText Term) (xs : List A) (i : ℕ) (x : A) → x ≡ get_or xs i x → i < length xs
    → functions_said (map f (take (i + 1) xs)) ≡ after_statement (functions_said (map f (take i xs))) (f x)
functions_said-more f xs i x is lt =
    let m : map f (take (i + 1) xs) ≡ map f (take i xs) ++ f x ∷ [] = map_more f xs i x lt ∙ ap (λ y. map f (take i xs) ++ f y ∷ []) (sym is) in
    ap functions_said m ∙ fold-append after_statement [] (map f (take i xs)) (f x ∷ [])

take_front : (ys : List (StatementText Term)) (y : StatementText Term) (k : ℕ) → k ≤ length ys → take k (ys ++ y ∷ []) ≡ take k ys
take_front ys y k h = rw take-append-le refl

follow_pushed : (ys : List (StatementText Term)) (y : StatementText Term) → FollowFunctions ys → FollowsFunction (functions_said ys) y → FollowFunctions (ys ++ y ∷ [])
follow_pushed ys y old new k s h = elim (pushed_cases ys y k s h) [
  | inl e ↦ let l : k < length ys = e.0 in subst (λ before. FollowsFunction (functions_said before) s) (sym (take_front ys y k (omega arith))) (old k s e.1)
  | inr e ↦
      let p : take k (ys ++ y ∷ []) ≡ ys = ap (λ n. take n (ys ++ y ∷ [])) e.0 ∙ take-append_seam ys (y ∷ []) in
      subst (λ before. FollowsFunction (functions_said before) s) (sym p) (subst (FollowsFunction (functions_said ys)) e.1 new)
]

pub follow_more : {A : Type 0} (f : A → StatementText Term) (xs : List A) (i : ℕ) (x : A) → x ≡ get_or xs i x → i < length xs
    → FollowFunctions (map f (take i xs)) → FollowsFunction (functions_said (map f (take i xs))) (f x) → FollowFunctions (map f (take (i + 1) xs))
follow_more f xs i x is lt old new =
    let m : map f (take (i + 1) xs) ≡ map f (take i xs) ++ f x ∷ [] = map_more f xs i x lt ∙ ap (λ y. map f (take i xs) ++ f y ∷ []) (sym is) in
    subst FollowFunctions (sym m) (follow_pushed (map f (take i xs)) (f x) old new)
