-- A guard and the let behind it, and the loop of one turn that stands for both.
use Rattle.std.proofs.Common.{◌≡◌, ℕ, Bool, true, false, List, [], ◌∷◌, Option, Some, None, refl, sym, ap, ◌∙◌, subst, arith}
use Rattle.std.specs.Prelude.{◌≤ℤ◌, ◌==◌, ◌||◌, ◌&&◌, if◌then◌else◌}
use Rattle.std.specs.List.{AllByRecursion, list_any}
use Rattle.std.specs.Ordering.{int_eq}
use Rattle.std.proofs.lemmas.Int.{ints, clamps}
use Rattle.lin.specs.Forms.{Form, same_form, same_terms}
use Rattle.plan.specs.declared.stmt.Pick.TheVariants.{Min, Max}
use Rattle.plan.specs.Symbols.{Symbols, form_value}
use Rattle.soundness.specs.Obligations.{Binder, Ranged, Picked, Passed, Respects, picked}
use Rattle.soundness.proofs.Refines.{and_parts, number_true}
use Rattle.tails.specs.Steps.{binds}
use Rattle.lin.specs.declared.span.Span1.{Span1}
use Rattle.tails.specs.Moves.{then_more, unguarded, turned, is_fixed, settled, paired}
use Rattle.tails.proofs.Chosen.{map_parts, some_same, respects_more, respects_head, respects_tail}
use Rattle.tails.proofs.Values.{same_terms_sum}

same_value : (a b : Form) (s : Symbols) → same_form a b ≡ true → form_value a s ≡ form_value b s
same_value a b s h =
    let k = and_parts (int_eq a.constant b.constant) (same_terms a.terms b.terms) h in
    let e = number_true a.constant b.constant k.0 in
    let r = same_terms_sum a.terms b.terms s.value k.1 in
    omega (arith, ints, e, r)

-- the same steps but for one guard
pub record Without (low high : Form) (bs others : List Binder) : Type 0 where
  pub any : (i : ℕ) → list_any (binds i) bs ≡ list_any (binds i) others
  pub join : (t : Symbols) → Respects others t → form_value low t ≤ℤ form_value high t → Respects bs t
  pub rest : (t : Symbols) → Respects bs t → Respects others t
  pub guard : (t : Symbols) → Respects bs t → form_value low t ≤ℤ form_value high t

without_more : (low high : Form) (b : Binder) (bs others : List Binder) → Without low high bs others → Without low high (b ∷ bs) (b ∷ others)
without_more low high b bs others w = record {
  any = λ i. ap (λ v. binds i b || v) (w.any i);
  join = λ t r h. respects_more b bs t (respects_head b others t r) (w.join t (respects_tail b others t r) h);
  rest = λ t r. respects_more b others t (respects_head b bs t r) (w.rest t (respects_tail b bs t r));
  guard = λ t r. w.guard t (respects_tail b bs t r);
}

more_without : (low high : Form) (b : Binder) (bs others : List Binder) → ((os : List Binder) → unguarded low high bs ≡ Some os → Without low high bs os) → then_more b (unguarded low high bs) ≡ Some others → Without low high (b ∷ bs) others
more_without low high b bs others rest e =
    let m = map_parts (λ os. b ∷ os) (unguarded low high bs) others e in
    subst (Without low high (b ∷ bs)) m.2 (without_more low high b bs m.0 (rest m.0 m.1))

unguarded_parts : (low high : Form) (bs others : List Binder) → unguarded low high bs ≡ Some others → Without low high bs others
unguarded_parts low high [] others e = absurd (cc e)
unguarded_parts low high (Ranged i x ∷ bs) others e = more_without low high (Ranged i x) bs others (λ os k. unguarded_parts low high bs os k) e
unguarded_parts low high (Picked i pick ls ∷ bs) others e = more_without low high (Picked i pick ls) bs others (λ os k. unguarded_parts low high bs os k) e
unguarded_parts low high (Passed l h ∷ bs) others e = of (same_form l low && same_form h high) refl (λ os k. unguarded_parts low high bs os k) e
  where
    of : (v : Bool) → (same_form l low && same_form h high) ≡ v → ((os : List Binder) → unguarded low high bs ≡ Some os → Without low high bs os) →
        (if v then Some bs else then_more (Passed l h) (unguarded low high bs)) ≡ Some others → Without low high (Passed l h ∷ bs) others
    of true k rest e =
        let same : bs ≡ others = some_same bs others e in
        let both = and_parts (same_form l low) (same_form h high) k in
        subst (Without low high (Passed l h ∷ bs)) same
        (record {
          any = λ i. refl;
          join = λ t r g. (let a = same_value l low t both.0 in let c = same_value h high t both.1 in omega (arith, ints, a, c, g), r);
          rest = λ t r. r.1;
          guard = λ t r. let a = same_value l low t both.0 in let c = same_value h high t both.1 in let g = r.0 in omega (arith, ints, a, c, g);
        })
    of false k rest e = more_without low high (Passed l h) bs others rest e

-- steps that allow the same
pub record Alike (bs cs : List Binder) : Type 0 where
  pub any : (i : ℕ) → list_any (binds i) bs ≡ list_any (binds i) cs
  pub back : (t : Symbols) → Respects cs t → Respects bs t
  pub on : (t : Symbols) → Respects bs t → Respects cs t

alike_more : (b : Binder) (bs cs : List Binder) → Alike bs cs → Alike (b ∷ bs) (b ∷ cs)
alike_more b bs cs a = record {
  any = λ i. ap (λ v. binds i b || v) (a.any i);
  back = λ t r. respects_more b bs t (respects_head b cs t r) (a.back t (respects_tail b cs t r));
  on = λ t r. respects_more b cs t (respects_head b bs t r) (a.on t (respects_tail b bs t r));
}

alike_turned : (i : ℕ) (a c : Form) (bs cs : List Binder) → Alike bs cs → Alike (Picked i Min (a ∷ c ∷ []) ∷ bs) (turned i a c cs (unguarded a c cs))
alike_turned i a c bs cs h = of (unguarded a c cs) refl
  where
    of : (o : Option (List Binder)) → unguarded a c cs ≡ o → Alike (Picked i Min (a ∷ c ∷ []) ∷ bs) (turned i a c cs o)
    of None e = alike_more (Picked i Min (a ∷ c ∷ [])) bs cs h
    of (Some os) e =
        let w = unguarded_parts a c cs os e in
        record {
          any = λ j. ap (λ v. (j == i) || v) (h.any j ∙ w.any j);
          back = λ t r.
              let low = r.0.0.0 in
              let same = r.0.1.0 in
              let high = r.0.1.1.0 in
              (omega (arith, ints, clamps, low, same, high), h.back t (w.join t r.1 (omega (arith, ints, low, high))));
          on = λ t r.
              let cs_hold = h.on t r.1 in
              let guard = w.guard t cs_hold in
              let is = r.0 in
              (((omega (arith, ints, clamps, is, guard), tt), (omega (arith, ints, clamps, is, guard), (omega (arith, ints, clamps, is, guard), tt))), w.rest t cs_hold);
        }

alike_settled : (i : ℕ) (x : Span1) (bs cs : List Binder) → Alike bs cs → Alike (Ranged i x ∷ bs) (settled (Ranged i x) ∷ cs)
alike_settled i x bs cs h = of x.lower x.upper refl refl
  where
    loop : is_fixed x.lower x.upper ≡ false → Alike (Ranged i x ∷ bs) (settled (Ranged i x) ∷ cs)
    loop e = subst (λ v. Alike (Ranged i x ∷ bs) ((if v then Picked i Min x.lower else Ranged i x) ∷ cs)) (sym e) (alike_more (Ranged i x) bs cs h)

    name : (l u : Form) → x.lower ≡ l ∷ [] → x.upper ≡ u ∷ [] → same_form l u ≡ true → Alike (Ranged i x ∷ bs) (Picked i Min x.lower ∷ cs)
    name l u low high same = record {
      any = λ j. ap (λ v. (j == i) || v) (h.any j);
      back = λ t r.
          let is : t.value i ≡ form_value l t = subst (λ ls. t.value i ≡ picked Min ls t) low r.0 in
          let equal = same_value l u t same in
          let below : AllByRecursion (λ f. form_value f t ≤ℤ t.value i) x.lower = subst (AllByRecursion (λ f. form_value f t ≤ℤ t.value i)) (sym low) (omega (arith, ints, is), tt) in
          let above : AllByRecursion (λ f. t.value i ≤ℤ form_value f t) x.upper = subst (AllByRecursion (λ f. t.value i ≤ℤ form_value f t)) (sym high) (omega (arith, ints, is, equal), tt) in
          ((below, above), h.back t r.1);
      on = λ t r.
          let begins = (subst (AllByRecursion (λ f. form_value f t ≤ℤ t.value i)) low r.0.0).0 in
          let ends = (subst (AllByRecursion (λ f. t.value i ≤ℤ form_value f t)) high r.0.1).0 in
          let equal = same_value l u t same in
          let is : t.value i ≡ form_value l t = omega (arith, ints, begins, ends, equal) in
          (subst (λ ls. t.value i ≡ picked Min ls t) (sym low) is, h.on t r.1);
    }

    of : (ls us : List Form) → x.lower ≡ ls → x.upper ≡ us → Alike (Ranged i x ∷ bs) (settled (Ranged i x) ∷ cs)
    of [] us low high = loop (ap (λ ls. is_fixed ls x.upper) low)
    of (l ∷ []) [] low high = loop (ap (λ ls. is_fixed ls x.upper) low ∙ ap (is_fixed (l ∷ [])) high)
    of (l ∷ []) (u ∷ v ∷ us) low high = loop (ap (λ ls. is_fixed ls x.upper) low ∙ ap (is_fixed (l ∷ [])) high)
    of (l ∷ m ∷ ls) us low high = loop (ap (λ ls. is_fixed ls x.upper) low)
    of (l ∷ []) (u ∷ []) low high = on (same_form l u) refl
      where
        on : (v : Bool) → same_form l u ≡ v → Alike (Ranged i x ∷ bs) (settled (Ranged i x) ∷ cs)
        on false e = loop (ap (λ ls. is_fixed ls x.upper) low ∙ ap (is_fixed (l ∷ [])) high ∙ e)
        on true e =
            let fixed : is_fixed x.lower x.upper ≡ true = ap (λ ls. is_fixed ls x.upper) low ∙ ap (is_fixed (l ∷ [])) high ∙ e in
            subst (λ v. Alike (Ranged i x ∷ bs) ((if v then Picked i Min x.lower else Ranged i x) ∷ cs)) (sym fixed) (name l u low high e)

pub paired_alike : (bs : List Binder) → Alike bs (paired bs)
paired_alike [] = record { any = λ i. refl; back = λ t r. r; on = λ t r. r }
paired_alike (Ranged i x ∷ bs) = alike_settled i x bs (paired bs) (paired_alike bs)
paired_alike (Passed low high ∷ bs) = alike_more (Passed low high) bs (paired bs) (paired_alike bs)
paired_alike (Picked i Max ls ∷ bs) = alike_more (Picked i Max ls) bs (paired bs) (paired_alike bs)
paired_alike (Picked i Min [] ∷ bs) = alike_more (Picked i Min []) bs (paired bs) (paired_alike bs)
paired_alike (Picked i Min (a ∷ []) ∷ bs) = alike_more (Picked i Min (a ∷ [])) bs (paired bs) (paired_alike bs)
paired_alike (Picked i Min (a ∷ c ∷ []) ∷ bs) = alike_turned i a c bs (paired bs) (paired_alike bs)
paired_alike (Picked i Min (a ∷ c ∷ d ∷ ls) ∷ bs) = alike_more (Picked i Min (a ∷ c ∷ d ∷ ls)) bs (paired bs) (paired_alike bs)
