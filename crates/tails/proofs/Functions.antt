-- The functions of an algorithm from one on, and the updates of the first of a name.
use Rattle.std.proofs.Common.{◌≡◌, ℕ, zero, suc, ◌+◌, ◌-◌, ◌<◌, ◌≤◌, length, get_or, List, [], ◌∷◌, map, drop, Bool, true, false, Option, Some, None, sym, ap, refl, ◌∙◌, add-one, arith}
use Rattle.std.specs.Prelude.{slice_get, string_bytes, if◌then◌else◌}
use Rattle.std.specs.declared.string.String.{String}
use Rattle.std.specs.Global.{Global}
use Rattle.meaning.specs.Algorithm.{Function, Change}
use Rattle.meaning.specs.Names.{same_name}
use Rattle.soundness.specs.Given.{function_named, update_in}
use Rattle.algo.specs.Parts.{function_of, functions_of, change_of}
use Rattle.algo.specs.declared.function.Function.{Function as Entry}
use Rattle.algo.specs.declared.function.Update.{Update}
use Rattle.soundness.specs.Nests.Laws.{ranges_in}
use Rattle.tails.specs.Domains.{changes_in}

named_suc : (es : List (String Global × Entry)) (k : ℕ) (e : String Global × Entry) (name : List ℕ) → slice_get es k ≡ Some e
    → function_named (functions_of (drop k es)) name ≡ (if same_name (string_bytes e.0) name then Some (function_of e) else function_named (functions_of (drop (suc k) es)) name)
named_suc [] k e name h = absurd (cc)
named_suc (d ∷ es) zero e name h =
    let same : d ≡ e = cc in
    ap (λ (p : String Global × Entry). if same_name (string_bytes p.0) name then Some (function_of p) else function_named (functions_of es) name) same
named_suc (d ∷ es) (suc k) e name h = named_suc es k e name h

module _ (es : List (String Global × Entry)) (name : List ℕ) (k : ℕ) (e : String Global × Entry) (b : Bool) (at : slice_get es k ≡ Some e) (is : b ≡ same_name (string_bytes e.0) name) where
  abbrev choose : Bool → Option Function
  choose c = if c then Some (function_of e) else function_named (functions_of (drop (suc k) es)) name

  chosen : (c : Bool) → b ≡ c → function_named (functions_of (drop k es)) name ≡ choose c
  chosen c h = named_suc es k e name at ∙ ap choose (sym is ∙ h)

  -- the function found
  pub found_here : (w : Option Function) (us : List Update) → us ≡ e.1.updates.items → b ≡ true → function_named (functions_of (drop k es)) name ≡ w → Some (map change_of us) ≡ changes_in w
  found_here w us held h before = ap (λ (l : List Update). Some (map change_of l)) held ∙ ap changes_in (sym (chosen true h) ∙ before)

  -- or not yet
  pub found_later : (w : Option Function) → b ≡ false → function_named (functions_of (drop k es)) name ≡ w → function_named (functions_of (drop (k + 1) es)) name ≡ w
  found_later w h before = ap (λ n. function_named (functions_of (drop n es)) name) (add-one k) ∙ sym (chosen false h) ∙ before

pub get_mapped : (us : List Update) (j : ℕ) (u : Update) → j < length us → u ≡ get_or us j u → slice_get (map change_of us) j ≡ Some (change_of u)
get_mapped [] j u h e = absurd (omega arith)
get_mapped (x ∷ us) zero u h e = ap (λ (y : Update). Some (change_of y)) (sym e)
get_mapped (x ∷ us) (suc j) u h e = get_mapped us j u (omega arith) e

pub past_mapped : (us : List Update) (j : ℕ) → length us ≤ j → slice_get (map change_of us) j ≡ None
past_mapped [] j h = refl
past_mapped (x ∷ us) zero h = absurd (omega arith)
past_mapped (x ∷ us) (suc j) h = past_mapped us j (omega arith)

-- the reduction domain of a definition, by its update
pub domain_at : (w : Option Function) (us : List Update) (k j : ℕ) (d : Option Change) → Some (map change_of us) ≡ changes_in w → 1 ≤ k → j ≡ k - 1 → slice_get (map change_of us) j ≡ d → ranges_in d ≡ ranges_in (update_in w k)
domain_at None us k j d known h e at = absurd (cc)
domain_at (Some f) us zero j d known h e at = absurd (omega arith)
domain_at (Some f) us (suc k) j d known h e at =
    let same : map change_of us ≡ f.changes = cc in
    let here : j ≡ k = omega arith in
    ap ranges_in (sym at ∙ ap (λ l. slice_get l j) same ∙ ap (λ n. slice_get f.changes n) here)
