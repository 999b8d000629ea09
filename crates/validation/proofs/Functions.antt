-- Functions found by their names, one after another.
use Rattle.std.proofs.Common.{◌≡◌, ℕ, zero, suc, ◌+◌, List, [], ◌∷◌, ◌++◌, map, drop, take, Bool, true, false, Option, Some, None, sym, ap, ◌∙◌, add-one}
use Rattle.std.specs.Prelude.{slice_get, string_bytes}
use Rattle.std.specs.Option.{option_map}
use Rattle.std.specs.declared.string.String.{String}
use Rattle.std.specs.Global.{Global}
use Rattle.meaning.specs.Algorithm.{Function}
use Rattle.meaning.specs.Names.{same_name}
use Rattle.meaning.specs.Conditions.{function_named}
use Rattle.algo.specs.Parts.{function_of, functions_of, change_of}
use Rattle.algo.specs.declared.function.Update.{Update}
use Rattle.std.proofs.lemmas.Option.{slice_get-map}
use Rattle.algo.specs.declared.function.Function.{Function as Entry}
use Rattle.validation.specs.Stored.Definitions.{parts_of, parts_held, Step, definition_in}

-- the first of the remaining functions, or one after it
named_suc : (es : List (String Global × Entry)) (k : ℕ) (e : String Global × Entry) (name : List ℕ) → slice_get es k ≡ Some e
    → function_named (functions_of (drop k es)) name ≡ elim (same_name (string_bytes e.0) name) [ true ↦ Some (function_of e) | false ↦ function_named (functions_of (drop (suc k) es)) name ]
named_suc [] k e name h = absurd (cc)
named_suc (d ∷ es) zero e name h =
    let same : d ≡ e = cc in
    ap (λ (p : String Global × Entry). elim (same_name (string_bytes p.0) name) [ true ↦ Some (function_of p) | false ↦ function_named (functions_of es) name ]) same
named_suc (d ∷ es) (suc k) e name h = named_suc es k e name h

module _ (es : List (String Global × Entry)) (name : List ℕ) (k : ℕ) (e : String Global × Entry) (b : Bool) (at : slice_get es k ≡ Some e) (is : b ≡ same_name (string_bytes e.0) name) where
  abbrev choose : Bool → Option Function
  choose c = elim c [ true ↦ Some (function_of e) | false ↦ function_named (functions_of (drop (suc k) es)) name ]

  chosen : (c : Bool) → b ≡ c → function_named (functions_of (drop k es)) name ≡ choose c
  chosen c h = named_suc es k e name at ∙ ap choose (sym is ∙ h)

  -- the function found
  pub found_here : (w : Option Function) → b ≡ true → function_named (functions_of (drop k es)) name ≡ w → Some (parts_held e.1) ≡ option_map parts_of w
  found_here w h before = ap (option_map parts_of) (sym (chosen true h) ∙ before)

  -- or not yet
  pub found_later : (w : Option Function) → b ≡ false → function_named (functions_of (drop k es)) name ≡ w → function_named (functions_of (drop (k + 1) es)) name ≡ w
  found_later w h before = ap (λ n. function_named (functions_of (drop n es)) name) (add-one k) ∙ sym (chosen false h) ∙ before

-- a mark for each function
module _ (mark : List ℕ → Bool) where
  abbrev marks : List (String Global × Entry) → List Bool
  marks es = map (λ f. mark f.name) (functions_of es)

  marks_suc : (es : List (String Global × Entry)) (k : ℕ) (e : String Global × Entry) → slice_get es k ≡ Some e → marks (take (suc k) es) ≡ marks (take k es) ++ mark (string_bytes e.0) ∷ []
  marks_suc [] k e h = absurd (cc)
  marks_suc (d ∷ es) zero e h =
      let same : d ≡ e = cc in
      ap (λ (p : String Global × Entry). mark (string_bytes p.0) ∷ []) same
  marks_suc (d ∷ es) (suc k) e h = ap (λ (bs : List Bool). mark (string_bytes d.0) ∷ bs) (marks_suc es k e h)

  -- one mark more
  pub marks_more : (es : List (String Global × Entry)) (k : ℕ) (e : String Global × Entry) (b : Bool) (old new : List Bool) → slice_get es k ≡ Some e → b ≡ mark (string_bytes e.0)
      → old ≡ marks (take k es) → new ≡ old ++ b ∷ [] → new ≡ marks (take (k + 1) es)
  marks_more es k e b old new at is before after =
      after ∙ (λ i. before i ++ is i ∷ []) ∙ sym (marks_suc es k e at) ∙ ap (λ n. marks (take n es)) (sym (add-one k))

-- an update of this number
pub step_found : (f : Entry) (n i : ℕ) (u : Update) → n ≡ i + 1 → slice_get f.updates.items i ≡ Some u → Some (Step (parts_held f) (change_of u)) ≡ definition_in (Some (parts_held f)) n
step_found f n i u h found =
    ap (option_map (Step (parts_held f))) (sym (slice_get-map change_of f.updates.items i ∙ ap (option_map change_of) found))
    ∙ ap (definition_in (Some (parts_held f))) (sym (h ∙ add-one i))

pub step_missing : (f : Entry) (n i : ℕ) → n ≡ i + 1 → slice_get f.updates.items i ≡ None → None ≡ definition_in (Some (parts_held f)) n
step_missing f n i h missing =
    ap (option_map (Step (parts_held f))) (sym (slice_get-map change_of f.updates.items i ∙ ap (option_map change_of) missing))
    ∙ ap (definition_in (Some (parts_held f))) (sym (h ∙ add-one i))
