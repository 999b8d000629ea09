use Rattle.std.proofs.Common.{◌≡◌, ℕ, List, subst, sym, All, IsTrue}
use Rattle.std.specs.Prelude.{not}
use Rattle.std.specs.declared.string.String.{String}
use Rattle.std.specs.Global.{Global}
use Rattle.tree.specs.declared.expr.Expr.{Expr}
use Rattle.tree.specs.Term.{Term, term_of, list_terms}
use Rattle.tree.specs.Uses.{EachCall}
use Rattle.meaning.specs.Names.{same_name}
use Rattle.algo.specs.Scoping.Keeping.{KeepPlaces}
use Rattle.expr.specs.Statements.View.{update_text}
use Rattle.algo.specs.Parts.{names_of, function_of}
use Rattle.algo.specs.Keeping.{UpdatePlaces}
use Rattle.algo.proofs.Answered.{match_none}
use Rattle.algo.proofs.update.places_out.Goals as goal

-- no call is of the name
abbrev Others : List ℕ → List Expr → Type 0
Others own at = All (EachCall (λ name at. IsTrue (not (same_name own name)))) (list_terms at)

others : (own other : List ℕ) (at al : List Expr) → own ≡ other → at ≡ al → Others own at → Others other al
others own other at al e f h = subst (Others other) f (subst (λ n. Others n at) e h)

abbrev Kept : List ℕ → List (String Global) → Term → List Expr → Type 0
Kept own vs value at = KeepPlaces own (names_of vs) value (list_terms at)

kept : (own other : List ℕ) (vs ws : List (String Global)) (value : Term) (at al : List Expr) → own ≡ other → vs ≡ ws → at ≡ al → Kept own vs value at → Kept other ws value al
kept own other vs ws value at al e f g h = subst (Kept other ws value) g (subst (λ l. Kept other l value at) f (subst (λ n. Kept n vs value at) e h))

pub returns-in-Some-clause-kept : goal.returns-in-Some-clause-kept
returns-in-Some-clause-kept c = λ h. c.in-Some.ensures.holds (others _ _ _ _ (sym c.as_str-name.ensures.value) (sym c.deref.ensures.value) h.others)

pub returns-clause-kept : goal.returns-clause-kept
returns-clause-kept c =
    let name = c.as_str-name.ensures.value in
    let vars = c.as_slice-variables.ensures.value in
    let at = c.deref-2.ensures.value in
    let value = term_of c.args.statement.now.value in
    match_none c.first_misplaced.result
    (Kept c.as_str-name.result.now c.as_slice-variables.result.now value c.deref-2.result.now)
    (UpdatePlaces (function_of c.args.own.now) (update_text c.args.statement.now))
    c.first_misplaced.ensures.none
    (λ p. record { others = others _ _ _ _ name c.deref.ensures.value c.in_default.ensures.holds; kept = kept _ _ _ _ value _ _ name vars at p })
    (λ q. kept _ _ _ _ value _ _ (sym name) (sym vars) (sym at) q.kept)
