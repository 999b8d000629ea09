-- One function more in the table of bodies.
use Rattle.std.proofs.Common.{◌≡◌, ℕ, zero, suc, ◌+◌, ◌<◌, List, [], ◌∷◌, ◌++◌, length, take, reverse, Bool, true, false, Some, refl, sym, ap, ◌∙◌, subst, arith, add-one, get_or}
use Rattle.std.specs.Prelude.{slice_get, ◌||◌}
use Rattle.std.specs.declared.string.String.{String}
use Rattle.std.specs.Global.{Global}
use Rattle.std.proofs.lemmas.List.{reverse-append}
use Rattle.tree.specs.Term.{Call}
use Rattle.tree.specs.Substitution.{with_calls}
use Rattle.meaning.specs.Algorithm.{Function}
use Rattle.algo.specs.Parts.{function_of, functions_of}
use Rattle.algo.specs.declared.function.Function.{Function as Entry}
use Rattle.meaning.specs.Inlining.PutIn.{Replacement, over_unstored, with_definition, with_definitions, with_updates, comes_to_updates, has_updates, calls_some}
use Rattle.subst.specs.declared.bodies.Body.{Body}
use Rattle.subst.specs.Built.{Holds}
use Rattle.subst.specs.Table.{stands_in, marked_in, AreBodiesIn, stands, marked, AreBodies, IsBodyOf, IsTableOf}

module _ {A : Type 0} (step : A → Function → A) where
  -- a function that is stored makes no step
  steps_kept : (x : A) (es : List (String Global × Entry)) (stored : List Bool) (k : ℕ) → k < length stored → get_or stored k false ≡ true
      → over_unstored step x (functions_of (take (suc k) es)) stored ≡ over_unstored step x (functions_of (take k es)) stored
  steps_kept x [] stored zero lt h = refl
  steps_kept x [] stored (suc k) lt h = refl
  steps_kept x (e ∷ es) [] k lt h = absurd (omega (arith, lt))
  steps_kept x (e ∷ es) (true ∷ stored) zero lt h = refl
  steps_kept x (e ∷ es) (false ∷ stored) zero lt h = absurd (cc)
  steps_kept x (e ∷ es) (true ∷ stored) (suc k) lt h = steps_kept x es stored k (omega (arith, lt)) h
  steps_kept x (e ∷ es) (false ∷ stored) (suc k) lt h = steps_kept (step x (function_of e)) es stored k (omega (arith, lt)) h

  -- any other makes one
  steps_more : (x : A) (es : List (String Global × Entry)) (stored : List Bool) (k : ℕ) (f : String Global × Entry) → k < length stored → get_or stored k false ≡ false → slice_get es k ≡ Some f
      → over_unstored step x (functions_of (take (suc k) es)) stored ≡ step (over_unstored step x (functions_of (take k es)) stored) (function_of f)
  steps_more x [] stored k f lt h e = absurd (cc)
  steps_more x (g ∷ es) [] k f lt h e = absurd (omega (arith, lt))
  steps_more x (g ∷ es) (true ∷ stored) zero f lt h e = absurd (cc)
  steps_more x (g ∷ es) (false ∷ stored) zero f lt h e = let same : g ≡ f = cc in ap (λ (p : String Global × Entry). step x (function_of p)) same
  steps_more x (g ∷ es) (true ∷ stored) (suc k) f lt h e = steps_more x es stored k f (omega (arith, lt)) h e
  steps_more x (g ∷ es) (false ∷ stored) (suc k) f lt h e = steps_more (step x (function_of g)) es stored k f (omega (arith, lt)) h e

last_first : (bs : List Body) (b : Body) → reverse (bs ++ b ∷ []) ≡ b ∷ reverse bs
last_first bs b = reverse-append bs (b ∷ [])

module _ (es : List (String Global × Entry)) (stored : List Bool) (bs : List Body) (k : ℕ) where
  table_suc : k < length stored → get_or stored k false ≡ true → IsTableOf (take k es) stored bs → IsTableOf (take (suc k) es) stored bs
  table_suc lt h before = record {
    kept = before.kept;
    calls = λ name at. before.calls name at ∙ sym (ap (λ (r : Replacement). r name at) (steps_kept with_definition Call es stored k lt h));
    updates = λ name. before.updates name ∙ sym (ap (λ (m : List ℕ → Bool). m name) (steps_kept with_updates (λ n. false) es stored k lt h));
  }

  -- a stored function adds nothing
  pub table_kept : k < length stored → get_or stored k false ≡ true → IsTableOf (take k es) stored bs → IsTableOf (take (k + 1) es) stored bs
  table_kept lt h before = subst (λ n. IsTableOf (take n es) stored bs) (sym (add-one k)) (table_suc lt h before)

  kept_more : (f : Function) (d : Body) → AreBodies bs → IsBodyOf bs f d → AreBodies (bs ++ d ∷ [])
  kept_more f d before body =
      subst (λ (l : List Body). AreBodiesIn l) (sym (last_first bs d)) (
        subst (λ (g : Function). Holds (with_calls (stands bs) g.value) d.value) (sym body.of) body.value,
        subst (λ (g : Function). d.updates ≡ (has_updates g.changes || calls_some (marked bs) g.value)) (sym body.of) body.updates,
        before,
      )

  table_one : (f : String Global × Entry) (d : Body) → k < length stored → get_or stored k false ≡ false → slice_get es k ≡ Some f → IsTableOf (take k es) stored bs → IsBodyOf bs (function_of f) d
      → IsTableOf (take (suc k) es) stored (bs ++ d ∷ [])
  table_one f d lt h e before body =
      let calls_before : stands bs ≡ with_definitions Call (functions_of (take k es)) stored = λ i name at. before.calls name at i in
      let marks_before : marked bs ≡ comes_to_updates (functions_of (take k es)) stored = λ i name. before.updates name i in
      record {
        kept = kept_more (function_of f) d before.kept body;
        calls = λ name at.
            ap (λ (l : List Body). stands_in l name at) (last_first bs d)
            ∙ (λ i. with_definition (calls_before i) (body.of i) name at)
            ∙ sym (ap (λ (r : Replacement). r name at) (steps_more with_definition Call es stored k f lt h e));
        updates = λ name.
            ap (λ (l : List Body). marked_in l name) (last_first bs d)
            ∙ (λ i. with_updates (marks_before i) (body.of i) name)
            ∙ sym (ap (λ (m : List ℕ → Bool). m name) (steps_more with_updates (λ n. false) es stored k f lt h e));
      }

  -- any other adds its body
  pub table_more : (f : String Global × Entry) (d : Body) (now : List Body) → k < length stored → get_or stored k false ≡ false → slice_get es k ≡ Some f → IsTableOf (take k es) stored bs → IsBodyOf bs (function_of f) d
      → now ≡ bs ++ d ∷ [] → IsTableOf (take (k + 1) es) stored now
  table_more f d now lt h e before body pushed =
      subst (λ (l : List Body). IsTableOf (take (k + 1) es) stored l) (sym pushed)
      (subst (λ n. IsTableOf (take n es) stored (bs ++ d ∷ [])) (sym (add-one k)) (table_one f d lt h e before body))
