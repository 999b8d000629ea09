use Rattle.std.proofs.Common.{List, All, Bor, ℕ, ap, map, sym, subst}
use Rattle.std.specs.Prelude.{IfErr, OnOk}
use Rattle.std.proofs.lemmas.Result.{err_from_is_err_and}
use Rattle.meaning.specs.Algorithm.{Algorithm}
use Rattle.algo.specs.View.{algorithm_of}
use Rattle.stencil.specs.Compares.{IsLegalFile, IsRefusedAmong}
use Rattle.commands.specs.Files.{Contents}
use Rattle.commands.proofs.Kept.{same_then}
use Rattle.stencil.proofs.Schedules.{all_behind, among_behind, none_legal, refused_first}
use Rattle.stencil.proofs.compare.compare_by_first.Goals as goal

-- no schedule: nothing is asked of any
pub returns-in-None-clause-legal : goal.returns-in-None-clause-legal
returns-in-None-clause-legal g c = none_legal (g.F.Files.contents c.args.files.now) (algorithm_of c.args.algo.now) c.args.names.now c.in-None.ensures.cases

-- the first one is refused
pub returns-in_err-picture-in-Some-clause-refused : goal.returns-in_err-picture-in-Some-clause-refused
returns-in_err-picture-in-Some-clause-refused g c =
    let p = err_from_is_err_and c.from_residual.result c.from_residual.ensures.1 in
    rw (p.1, ap (map (λ name. name.now)) c.in-Some.ensures.cases.0) (refused_first _ _ _ _ p.0 (rw p.2 c.in_err-picture-in-Some.ensures.refused))

-- what is said of those behind it is said of all
pub returns-in_ok-picture-in-Some-clause-legal : goal.returns-in_ok-picture-in-Some-clause-legal
returns-in_ok-picture-in-Some-clause-legal g c =
    let at : Contents = g.F.Files.contents c.args.files.now in
    let a : Algorithm = algorithm_of c.args.algo.now in
    let Legal : List (Bor (List ℕ)) → Type 0 = λ names. OnOk c.compare_schedules.result (All (IsLegalFile at a) (map (λ name. name.now) names)) in
    subst Legal (sym c.in-Some.ensures.cases.0)
    (all_behind _ _ _ _ _ c.first_picture.ensures.same c.in_ok-picture-in-Some.ensures.legal c.compare_schedules.result c.compare_schedules.ensures.legal)

pub returns-in_ok-picture-in-Some-clause-refused : goal.returns-in_ok-picture-in-Some-clause-refused
returns-in_ok-picture-in-Some-clause-refused g c =
    let at : Contents = g.F.Files.contents c.args.files.now in
    let a : Algorithm = algorithm_of c.args.algo.now in
    let Refused : List (Bor (List ℕ)) → Type 0 = λ names. IfErr c.compare_schedules.result (IsRefusedAmong at a (map (λ name. name.now) names)) in
    subst Refused (sym c.in-Some.ensures.cases.0)
    (among_behind _ _ _ _ _ c.first_picture.ensures.same c.in_ok-picture-in-Some.ensures.legal c.compare_schedules.result c.compare_schedules.ensures.refused)

pub returns-in_ok-picture-in-Some-clause-same : goal.returns-in_ok-picture-in-Some-clause-same
returns-in_ok-picture-in-Some-clause-same g c = same_then _ _ _ c.first_picture.ensures.same c.compare_schedules.ensures.same
