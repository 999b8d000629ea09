use Rattle.std.proofs.Common.{◌≡◌, ◌<◌, ◌^◌, List, length, Some, None, true, sym, ap, ◌∙◌, subst, arith, slice_get, option_map, refl}
use Rattle.std.specs.Prelude.{nat_lt}
use Rattle.std.proofs.lemmas.Bool.{OnTrue_at}
use Rattle.std.proofs.lemmas.List.{length-map}
use Rattle.std.proofs.lemmas.Option.{slice_get-map, slice_get_read}
use Rattle.plan.specs.declared.certificate.cert.Claim.{Claim}
use Rattle.plan.specs.Certificate.Certificate.{certificate_of, claim_of}
use Rattle.plan.specs.Semantics.Memory.{read}
use Rattle.plan.specs.Semantics.Run.{look_at, Source}
use Rattle.plan.specs.Semantics.Setting.{buffer_in}
use Rattle.plan.specs.View.{plan_of}
use Rattle.interpreter.specs.Buffers.Blocks.{memory_of}
use Rattle.interpreter.specs.Claims.{Means}
use Rattle.interpreter.specs.Pieces.{around, no_cells}
use Rattle.interpreter.proofs.Codes.{means_claim}
use Rattle.interpreter.proofs.reading.Reading.look_by.Goals as goal

pub returns-in-Some-get : goal.returns-in-Some-get
returns-in-Some-get c =
    let x = c.args.self.now.piece.now in
    let input = (plan_of x.plan.now).input.name in
    let claims = (certificate_of x.cert.now).claims in
    let name = c.args.name.now in
    let k = c.in-Some.number in
    let m = memory_of c.args.self.now.memory.now in
    let at = c.args.at.now in
    let plain : x.is_plain ≡ true = c.if-not-self.false in
    let none : Means input None = OnTrue_at plain c.requires.ready.plain in
    let means : Means name (Some k) = subst (Means name) c.in-Some.is c.requires.means in
    let given = x.cert.now.claims.items in
    let long : length claims ≡ length given = length-map given claim_of in
    let same : c.deref.result.now ≡ given = c.deref.ensures.value in
    let few : length claims < 2 ^ 64 = (let f = c.deref.ensures.len in let e = ap length same in omega (arith, long, f, e)) in
    let there : true ≡ nat_lt k (length c.deref.result.now) = c.in-Some-get.ensures.lookup.0 in
    let inside : nat_lt k (length claims) ≡ true = ap (nat_lt k) (long ∙ sym (ap length same)) ∙ sym there in
    let lies : slice_get given k ≡ Some c.in-Some-get.claim.now =
    ap (λ (l : List Claim). slice_get l k) (sym same) ∙ slice_get_read c.deref.result.now (length c.deref.result.now) k c.in-Some-get.claim.now refl c.in-Some-get.ensures.lookup.3.0
    c.in-Some-get.ensures.lookup.1 in
    let held : buffer_in (slice_get claims k) ≡ c.in-Some-get.claim.now.buffer = ap buffer_in (slice_get-map claim_of given k ∙ ap (option_map claim_of) lies) in
    c.read.ensures ∙ (λ i. read m (sym held i) at) ∙ sym (ap (λ (s : Source). look_at (around x no_cells) m s at) (means_claim input name (length claims) k few inside means none))
