-- What does not depend on which forms are shown to be at most which.
use Rattle.std.proofs.Common.{◌≡◌, ℕ, List, [], ◌∷◌, Bool, false, Option, Some, None, refl, ap, ◌∙◌}
use Rattle.std.specs.Prelude.{◌&&◌, not, if◌then◌else◌, option_and_then}
use Rattle.std.specs.List.{list_any}
use Rattle.std.specs.Option.{option_map}
use Rattle.lin.specs.Forms.{Form, factor_of}
use Rattle.lin.specs.declared.span.Span1.{Span1}
use Rattle.plan.specs.declared.stmt.Pick.{Pick}
use Rattle.plan.specs.declared.stmt.Pick.TheVariants.{Min, Max}
use Rattle.plan.specs.Semantics.Setting.{or_else}
use Rattle.soundness.specs.Obligations.{Binder, Ranged, Picked, Passed, form_has, span_has}
use Rattle.tails.specs.Moves.{Choice, choices, State, Ready, joined, single, each_replaced, is_positive, span_from, first_some, expanded, opened, below, above, over_loop, taken, after_loop, by_loop, best, is_alone, without_let, is_free_let, after_let, by_let, last_under, with_last, bounded}

abbrev left : List Binder → List Span1 → State
left others zs = record { steps = others; spans = zs }

module _ (exact : Bool) (shows other : Form → Form → Bool) where
  pub taken_alike : (i : ℕ) (x : Span1) (ys : List Span1) → taken exact shows i x ys ≡ taken exact other i x ys
  taken_alike i x [] = refl
  taken_alike i x (y ∷ ys) =
      ap (λ (o : Option (List Span1)). if span_has i y then (if list_any (span_has i) ys then None else option_map (λ (z : Span1). z ∷ ys) (over_loop exact other i x y)) else option_map (λ (zs : List Span1). y ∷ zs) o)
      (taken_alike i x ys)

  onward_alike : (ys : List Span1) (r : Option Ready) → option_and_then (after_loop exact shows ys) r ≡ option_and_then (after_loop exact other ys) r
  onward_alike ys None = refl
  onward_alike ys (Some r) = ap (option_map (λ (zs : List Span1). left r.others zs)) (taken_alike r.symbol r.span ys)

  pub loop_alike : (st : State) → by_loop exact shows st ≡ by_loop exact other st
  loop_alike st = onward_alike st.spans (best st.spans (choices st.steps))

  last_alike : (y : Span1) (ys : List Span1) (u : Option Form) (later : Option (List Span1)) (also : Bool) → with_last exact shows y ys u later ≡ with_last also other y ys u later
  last_alike y ys None later also = refl
  last_alike y ys (Some u) later also = refl

  pub bounded_alike : (also : Bool) (others : List Binder) (low high : Form) (ys : List Span1) → bounded exact shows others low high ys ≡ bounded also other others low high ys
  bounded_alike also others low high [] = refl
  bounded_alike also others low high (y ∷ ys) =
      ap (λ (o : Option (List Span1)). with_last exact shows y ys (first_some (last_under exact shows others low high) y.lower) o) (bounded_alike also others low high ys)
      ∙ last_alike y ys (first_some (last_under exact shows others low high) y.lower) (bounded also other others low high ys) also

  pub expanded_alike : (also : Bool) (i : ℕ) (ms fs : List Form) → expanded exact shows i ms fs ≡ expanded also other i ms fs
  expanded_alike also i ms [] = refl
  expanded_alike also i ms (f ∷ fs) =
      ap (λ (o : Option (List Form)). if form_has i f then (if is_positive (factor_of f.terms i) then joined (each_replaced f i (factor_of f.terms i) ms) o else None) else joined (Some (f ∷ [])) o)
      (expanded_alike also i ms fs)

  below_alike : (also : Bool) (pick : Pick) (ls : List Form) → below exact shows pick ls ≡ below also other pick ls
  below_alike also Min [] = refl
  below_alike also Min (f ∷ fs) = refl
  below_alike also Max fs = refl

  above_alike : (also : Bool) (pick : Pick) (ls : List Form) → above exact shows pick ls ≡ above also other pick ls
  above_alike also Min fs = refl
  above_alike also Max [] = refl
  above_alike also Max (f ∷ fs) = refl

  pub opened_alike : (also : Bool) (i : ℕ) (pick : Pick) (ls : List Form) (ys : List Span1) → opened exact shows i pick ls ys ≡ opened also other i pick ls ys
  opened_alike also i pick ls [] = refl
  opened_alike also i pick ls (y ∷ ys) =
      ap (λ (o : Option (List Span1)). joined (single (span_from (expanded exact shows i (below exact shows pick ls) y.lower) (expanded exact shows i (above exact shows pick ls) y.upper))) o) (opened_alike also i pick ls ys)
      ∙ ap (λ (o : Option (List Form)). joined (single (span_from o (expanded exact shows i (above exact shows pick ls) y.upper))) (opened also other i pick ls ys))
      (ap (λ (ms : List Form). expanded exact shows i ms y.lower) (below_alike also pick ls) ∙ expanded_alike also i (below also other pick ls) y.lower)
      ∙ ap (λ (o : Option (List Form)). joined (single (span_from (expanded also other i (below also other pick ls) y.lower) o)) (opened also other i pick ls ys))
      (ap (λ (ms : List Form). expanded exact shows i ms y.upper) (above_alike also pick ls) ∙ expanded_alike also i (above also other pick ls) y.upper)

  without_alike : (i : ℕ) (pick : Pick) (ls : List Form) (ys : List Span1) → without_let exact shows i pick ls ys ≡ without_let exact other i pick ls ys
  without_alike i pick ls ys = ap (λ (o : Option (List Span1)). if list_any (span_has i) ys then (if exact && not (is_alone ls) then None else o) else Some ys) (opened_alike exact i pick ls ys)

  after_alike : (ys : List Span1) (b : Binder) (others : List Binder) → after_let exact shows ys b others ≡ after_let exact other ys b others
  after_alike ys (Ranged i x) others = refl
  after_alike ys (Picked i pick ls) others =
      ap (λ (o : Option (List Span1)). if is_free_let exact shows i ls others then option_map (λ (zs : List Span1). left others zs) o else None) (without_alike i pick ls ys)
  after_alike ys (Passed low high) others = refl

  lets_alike : (ys : List Span1) (cs : List Choice) → first_some (λ (c : Choice). after_let exact shows ys c.one c.others) cs ≡ first_some (λ (c : Choice). after_let exact other ys c.one c.others) cs
  lets_alike ys [] = refl
  lets_alike ys (c ∷ cs) =
      ap (λ (o : Option State). or_else o (first_some (λ (d : Choice). after_let exact shows ys d.one d.others) cs)) (after_alike ys c.one c.others)
      ∙ ap (λ (o : Option State). or_else (after_let exact other ys c.one c.others) o) (lets_alike ys cs)

  pub let_alike : (st : State) → by_let exact shows st ≡ by_let exact other st
  let_alike st = lets_alike st.spans (choices st.steps)

-- the same, told by one of them
module _ (exact : Bool) (shows : Form → Form → Bool) where
  pub loop_plain : (st : State) → by_loop exact shows st ≡ by_loop exact (λ a b. false) st
  loop_plain st = loop_alike exact shows (λ a b. false) st

  pub let_plain : (st : State) → by_let exact shows st ≡ by_let exact (λ a b. false) st
  let_plain st = let_alike exact shows (λ a b. false) st

  pub bounded_plain : (others : List Binder) (low high : Form) (ys : List Span1) → bounded exact shows others low high ys ≡ bounded false (λ a b. false) others low high ys
  bounded_plain others low high ys = bounded_alike exact shows (λ a b. false) false others low high ys

  pub opened_plain : (i : ℕ) (pick : Pick) (ls : List Form) (ys : List Span1) → opened exact shows i pick ls ys ≡ opened false (λ a b. false) i pick ls ys
  opened_plain i pick ls ys = opened_alike exact shows (λ a b. false) false i pick ls ys
