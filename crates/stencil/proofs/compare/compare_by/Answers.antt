use Rattle.std.proofs.Common.{◌≡◌, ◌⊎◌, ◌^◌, List, Bor, ℕ, All, false, map, subst}
use Rattle.std.specs.Prelude.{IfErr, OnOk}
use Rattle.meaning.specs.Algorithm.{Algorithm}
use Rattle.algo.specs.View.{algorithm_of, samples_of}
use Rattle.commands.specs.declared.pipeline.fault.Fault.{Fault}
use Rattle.stencil.specs.Compares.{IsLegalFile, IsRefusedAmong}
use Rattle.commands.specs.Files.{Contents}
use Rattle.commands.specs.Pipeline.Pictures.{IsBudgetSpent}
use Rattle.stencil.proofs.Schedules.{on_right, with_words}
use Rattle.stencil.proofs.compare.compare_by.Goals as goal

pub returns-then-request-clause-legal : goal.returns-then-request-clause-legal
returns-then-request-clause-legal g c =
    let at : Contents = g.F.Files.contents c.args.files.now in
    let a : Algorithm = algorithm_of c.args.algo.now in
    let Legal : List (Bor (List ℕ)) → Type 0 = λ names. OnOk c.compare_by_first.result (All (IsLegalFile at a) (map (λ name. name.now) names)) in
    subst Legal c.as_slice-names.ensures.value c.compare_by_first.ensures.legal

pub returns-then-request-clause-refused : goal.returns-then-request-clause-refused
returns-then-request-clause-refused g c =
    let at : Contents = g.F.Files.contents c.args.files.now in
    let a : Algorithm = algorithm_of c.args.algo.now in
    let samples : List ℕ = samples_of c.args.inputs.now in
    let Plain : Fault → Type 0 = λ fault. (c.args.request.now.by_first ≡ false) × IsBudgetSpent a samples (2 ^ 32) fault in
    let Among : List (Bor (List ℕ)) → Fault → Type 0 = λ names. IsRefusedAmong at a (map (λ name. name.now) names) in
    let Refused : List (Bor (List ℕ)) → Type 0 = λ names. IfErr c.compare_by_first.result (Among names) in
    on_right Plain (Among c.args.request.now.schedules.items) c.compare_by_first.result (subst Refused c.as_slice-names.ensures.value c.compare_by_first.ensures.refused)

pub returns-else-request-clause-legal : goal.returns-else-request-clause-legal
returns-else-request-clause-legal g c =
    let at : Contents = g.F.Files.contents c.args.files.now in
    let a : Algorithm = algorithm_of c.args.algo.now in
    let Legal : List (Bor (List ℕ)) → Type 0 = λ names. OnOk c.compare_by_plain.result (All (IsLegalFile at a) (map (λ name. name.now) names)) in
    subst Legal c.as_slice-names.ensures.value c.compare_by_plain.ensures.legal

pub returns-else-request-clause-refused : goal.returns-else-request-clause-refused
returns-else-request-clause-refused g c =
    let at : Contents = g.F.Files.contents c.args.files.now in
    let a : Algorithm = algorithm_of c.args.algo.now in
    let samples : List ℕ = samples_of c.args.inputs.now in
    let Spent : Fault → Type 0 = IsBudgetSpent a samples (2 ^ 32) in
    let Among : List (Bor (List ℕ)) → Fault → Type 0 = λ names. IsRefusedAmong at a (map (λ name. name.now) names) in
    let Refused : List (Bor (List ℕ)) → Type 0 = λ names. IfErr c.compare_by_plain.result (λ fault. Spent fault ⊎ Among names fault) in
    with_words (c.args.request.now.by_first ≡ false) Spent (Among c.args.request.now.schedules.items) c.if-request.false c.compare_by_plain.result
    (subst Refused c.as_slice-names.ensures.value c.compare_by_plain.ensures.refused)
