use Rattle.std.proofs.Common.{◌≡◌, ◌<◌, ◌≤◌, map, length, refl, ap, sym, ◌∙◌, subst, arith}
use Rattle.std.specs.Prelude.{string_bytes, min, ◌↔◌, IsTrue}
use Rattle.std.proofs.lemmas.Bool.{false≢true}
use Rattle.std.proofs.lemmas.List.{length-map}
use Rattle.std.proofs.lemmas.Option.{slice_get_read}
use Rattle.tree.specs.Term.{term_of, list_terms}
use Rattle.tree.specs.Place.{span_of}
use Rattle.algo.specs.Scoping.Keeping.{KeepsPlaceOf}
use Rattle.algo.proofs.ScopingKept.{keep_next, keep_all, stands_of, same_read, below_left, below_right, below_both}
use Rattle.algo.proofs.scoping.keeping.first_misplaced.Goals as goal

pub returns-then-not-keeps_place-clause-none : goal.returns-then-not-keeps_place-clause-none
returns-then-not-keeps_place-clause-none c =
    let name = c.args.function.now in
    let vs = map string_bytes c.args.variables.now in
    let value = term_of c.args.value.now in
    let k = c.loop-k.k in
    let here : k < min (length c.args.at.now) (length c.args.variables.now) = subst (λ n. k < n) c.min-k-end.ensures c.loop-k-test.true in
    let of = stands_of string_bytes c.args.variables.now k c.index-variables-k.result (below_right k _ _ here) c.index-variables-k.is in
    let stands = stands_of term_of c.args.at.now k c.index-at-k.result (below_left k _ _ here) c.index-at-k.is in
    let kept : IsTrue c.keeps_place.result ↔ KeepsPlaceOf name vs value k (string_bytes c.index-variables-k.result) (term_of c.index-at-k.result) =
    subst (λ v. IsTrue c.keeps_place.result ↔ KeepsPlaceOf name vs value k v (term_of c.index-at-k.result)) c.as_str-variable.ensures.value c.keeps_place.ensures in
    (λ e. absurd (false≢true (sym e)), λ h. absurd (false≢true (sym c.if-not-keeps_place.true ∙ kept.1 (h k _ _ of stands))))

pub returns-then-not-keeps_place-clause-some : goal.returns-then-not-keeps_place-clause-some
returns-then-not-keeps_place-clause-some c =
    let name = c.args.function.now in
    let vs = map string_bytes c.args.variables.now in
    let value = term_of c.args.value.now in
    let k = c.loop-k.k in
    let here : k < min (length c.args.at.now) (length c.args.variables.now) = subst (λ n. k < n) c.min-k-end.ensures c.loop-k-test.true in
    let of = stands_of string_bytes c.args.variables.now k c.index-variables-k.result (below_right k _ _ here) c.index-variables-k.is in
    let kept : IsTrue c.keeps_place.result ↔ KeepsPlaceOf name vs value k (string_bytes c.index-variables-k.result) (term_of c.index-at-k.result) =
    subst (λ v. IsTrue c.keeps_place.result ↔ KeepsPlaceOf name vs value k v (term_of c.index-at-k.result)) c.as_str-variable.ensures.value c.keeps_place.ensures in
    let same : c.index-at-k-then-not-keeps_place.result ≡ c.index-at-k.result = same_read c.args.at.now k _ _ (below_left k _ _ here) c.index-at-k-then-not-keeps_place.is c.index-at-k.is in
    record {
      k = k;
      variable = string_bytes c.index-variables-k.result;
      index = c.index-at-k.result;
      of = of;
      stands = slice_get_read c.args.at.now (length c.args.at.now) k c.index-at-k.result refl (below_left k _ _ here) c.index-at-k.is;
      place = c.span.ensures ∙ ap span_of same;
      before = c.loop-k.invariant;
      misplaced = λ h. false≢true (sym c.if-not-keeps_place.true ∙ kept.1 h);
    }

pub loop-k-preserved : goal.loop-k-preserved
loop-k-preserved c =
    let name = c.args.function.now in
    let vs = map string_bytes c.args.variables.now in
    let value = term_of c.args.value.now in
    let k = c.loop-k.k in
    let here : k < min (length c.args.at.now) (length c.args.variables.now) = subst (λ n. k < n) c.min-k-end.ensures c.loop-k-test.true in
    let of = stands_of string_bytes c.args.variables.now k c.index-variables-k.result (below_right k _ _ here) c.index-variables-k.is in
    let stands = stands_of term_of c.args.at.now k c.index-at-k.result (below_left k _ _ here) c.index-at-k.is in
    let kept : IsTrue c.keeps_place.result ↔ KeepsPlaceOf name vs value k (string_bytes c.index-variables-k.result) (term_of c.index-at-k.result) =
    subst (λ v. IsTrue c.keeps_place.result ↔ KeepsPlaceOf name vs value k v (term_of c.index-at-k.result)) c.as_str-variable.ensures.value c.keeps_place.ensures in
    keep_next name vs value (list_terms c.args.at.now) k (string_bytes c.index-variables-k.result) (term_of c.index-at-k.result) of stands (kept.0 c.if-not-keeps_place.false) c.loop-k.invariant

pub returns-clause-none : goal.returns-clause-none
returns-clause-none c =
    let n : c.min-k-end.result ≡ min (length c.args.at.now) (length c.args.variables.now) = c.min-k-end.ensures in (
      λ e. keep_all c.args.function.now (map string_bytes c.args.variables.now) (term_of c.args.value.now) (list_terms c.args.at.now) c.loop-k.k
          (λ i a b. below_both i c.loop-k.k _ _ (subst (λ m. m ≤ c.loop-k.k) n (omega (arith, c.loop-k-test.false))) (subst (λ m. i < m) (length-map c.args.at.now term_of) a) (subst (λ m. i < m) (length-map c.args.variables.now string_bytes) b))
          c.loop-k.invariant,
      λ h. refl,
    )
