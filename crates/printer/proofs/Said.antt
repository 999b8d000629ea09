-- The statements of an algorithm say the algorithm, and each update follows its function.
use Rattle.std.proofs.Common.{◌≡◌, ℕ, zero, suc, List, [], ◌∷◌, ◌++◌, map, take, fold, refl, sym, ap, subst, ◌∙◌, append_assoc, Some}
use Rattle.std.specs.Prelude.{ℤ, pos, negsuc, slice_get}
use Rattle.std.specs.List.{flat_map}
use Rattle.std.proofs.lemmas.List.{append-nil}
use Rattle.tree.specs.Term.{Term}
use Rattle.meaning.specs.Algorithm.{Range, Change, Function, Algorithm}
use Rattle.expr.specs.Statements.Text.{StatementText, function, update, bound_value}
use Rattle.algo.specs.Saying.{range_said, change_said, with_update, after_statement, functions_said, says, IsLast, FollowsFunction, FollowFunctions}
use Rattle.printer.specs.Files.{bound_of, domain_of, update_of, updates_of, statements_of, file_of}

bound_back : (z : ℤ) → bound_value (bound_of z) ≡ z
bound_back (pos n) = refl
bound_back (negsuc n) = refl

ranges_back : (ds : List Range) → map range_said (map domain_of ds) ≡ ds
ranges_back [] = refl
ranges_back (d ∷ ds) = λ i. record { variable = d.variable; low = bound_back d.low i; high = bound_back d.high i } ∷ ranges_back ds i

change_back : (x : List ℕ) (u : Change) → change_said (update_of x u) ≡ u
change_back x u = λ i. record { ranges = ranges_back u.ranges i; at = u.at; value = u.value }

abbrev grown : Function → List Change → Function
grown f us = record f { changes = f.changes ++ us }

updated : (gs : List Function) (f : Function) (u : Change) → with_update (gs ++ f ∷ []) u ≡ gs ++ grown f (u ∷ []) ∷ []
updated [] f u = refl
updated (g ∷ []) f u = refl
updated (g ∷ h ∷ gs) f u = ap (λ fs. g ∷ fs) (updated (h ∷ gs) f u)

is_last : (gs : List Function) (f : Function) → IsLast (gs ++ f ∷ []) f.name
is_last [] f = refl
is_last (g ∷ []) f = refl
is_last (g ∷ h ∷ gs) f = is_last (h ∷ gs) f

-- the statements of updates, and then others
updates_said : (gs : List Function) (f : Function) (us : List Change) (rest : List (StatementText Term))
    → fold after_statement (gs ++ f ∷ []) (updates_of f.name us ++ rest) ≡ fold after_statement (gs ++ grown f us ∷ []) rest
updates_said gs f [] rest = ap (λ cs. fold after_statement (gs ++ record f { changes = cs } ∷ []) rest) (sym (append-nil f.changes))
updates_said gs f (u ∷ us) rest =
    ap (λ v. fold after_statement (with_update (gs ++ f ∷ []) v) (updates_of f.name us ++ rest)) (change_back f.name u)
    ∙ ap (λ fs. fold after_statement fs (updates_of f.name us ++ rest)) (updated gs f u)
    ∙ updates_said gs (grown f (u ∷ [])) us rest
    ∙ ap (λ cs. fold after_statement (gs ++ record f { changes = cs } ∷ []) rest) (append_assoc f.changes (u ∷ []) us)

functions_back_from : (gs fs : List Function) → fold after_statement gs (flat_map statements_of fs) ≡ gs ++ fs
functions_back_from gs [] = sym (append-nil gs)
functions_back_from gs (f ∷ fs) =
    updates_said gs (record f { changes = [] }) f.changes (flat_map statements_of fs)
    ∙ functions_back_from (gs ++ f ∷ []) fs
    ∙ append_assoc gs (f ∷ []) fs

pub says_back : (a : Algorithm) → says (file_of a) ≡ a
says_back a = λ i. record a { functions = functions_back_from [] a.functions i }

-- ---- each update follows its function

abbrev FollowsFrom : List Function → List (StatementText Term) → Type 0
FollowsFrom gs [] = Unit {0}
FollowsFrom gs (s ∷ ss) = FollowsFunction gs s × FollowsFrom (after_statement gs s) ss

updates_follow : (gs : List Function) (f : Function) (us : List Change) (rest : List (StatementText Term)) → FollowsFrom (gs ++ grown f us ∷ []) rest → FollowsFrom (gs ++ f ∷ []) (updates_of f.name us ++ rest)
updates_follow gs f [] rest h = subst (λ cs. FollowsFrom (gs ++ record f { changes = cs } ∷ []) rest) (append-nil f.changes) h
updates_follow gs f (u ∷ us) rest h = (
  is_last gs f,
  subst (λ fs. FollowsFrom fs (updates_of f.name us ++ rest)) (sym (ap (λ v. with_update (gs ++ f ∷ []) v) (change_back f.name u) ∙ updated gs f u))
      (updates_follow gs (grown f (u ∷ [])) us rest (subst (λ cs. FollowsFrom (gs ++ record f { changes = cs } ∷ []) rest) (sym (append_assoc f.changes (u ∷ []) us)) h)),
)

functions_follow : (gs fs : List Function) → FollowsFrom gs (flat_map statements_of fs)
functions_follow gs [] = tt
functions_follow gs (f ∷ fs) = (tt, updates_follow gs (record f { changes = [] }) f.changes (flat_map statements_of fs) (functions_follow (gs ++ f ∷ []) fs))

at_place : (gs : List Function) (ss : List (StatementText Term)) (k : ℕ) (s : StatementText Term) → FollowsFrom gs ss → slice_get ss k ≡ Some s → FollowsFunction (fold after_statement gs (take k ss)) s
at_place gs [] k s h is = absurd cc
at_place gs (x ∷ ss) zero s h is = let same : x ≡ s = cc in subst (FollowsFunction gs) same h.0
at_place gs (x ∷ ss) (suc k) s h is = at_place (after_statement gs x) ss k s h.1 is

pub follow_back : (a : Algorithm) → FollowFunctions (file_of a).statements
follow_back a k s is = at_place [] (flat_map statements_of a.functions) k s (functions_follow [] a.functions) is
