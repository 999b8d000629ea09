-- The private run of the sliding window gives right values, by its soundness.
use Rattle.std.proofs.Common.{◌≡◌, ℕ, zero, suc, Bool, true, false, List, [], ◌∷◌, Option, Some, None, refl, ap, ◌∙◌, sym, arith}
use Rattle.std.specs.Prelude.{nat_lt, codes, slice_get, if◌then◌else◌}
use Rattle.numeric.specs.declared.ty.Ty.TheVariants.{U8}
use Rattle.tree.specs.Meaning.{typed}
use Rattle.meaning.specs.Image.Raster.{sample}
use Rattle.meaning.specs.Names.{same_name}
use Rattle.plan.specs.Claimed.{claim_of}
use Rattle.plan.specs.Certificate.Certificate.{Claim}
use Rattle.plan.specs.Certificate.Cells.{grid_symbols}
use Rattle.plan.specs.Semantics.Actions.{actions}
use Rattle.plan.specs.Semantics.Run.{Around, Source, Input, ByClaim, Unknown, claim_source, source_of}
use Rattle.plan.specs.Semantics.Setting.{buffer_in, around_of}
use Rattle.plan.specs.Semantics.Worked.{slide_group, slide_plan, slide_certificate, no_cells}
use Rattle.soundness.specs.Given.{claim_or_none}
use Rattle.soundness.specs.Right.{Suits, AreRight}
use Rattle.soundness.specs.Worked.{slide_given, SlideRunsRight}
use Rattle.soundness.proofs.Refines.{name_true}
use Rattle.soundness.proofs.Slide.{slide_is_sound}
use Rattle.soundness.proofs.Whole.{whole}

same_buffer : (o : Option Claim) → buffer_in o ≡ (claim_or_none o).buffer
same_buffer None = refl
same_buffer (Some c) = refl

-- a name that means the input is the input's
no_input : (count : ℕ) (o : Option ℕ) → claim_source count o ≡ Input → ⊥
no_input count None e = cc e
no_input count (Some c) e = of (nat_lt c count) e
  where
    of : (v : Bool) → ◌≡◌ {A = Source} (if v then ByClaim c else Unknown) Input → ⊥
    of true k = cc k
    of false k = cc k

input_named : (input : List ℕ) (count : ℕ) (name : List ℕ) → source_of input count name ≡ Input → name ≡ input
input_named input count name e = of (same_name name input) refl e
  where
    of : (v : Bool) → same_name name input ≡ v → ◌≡◌ {A = Source} (if v then Input else claim_source count (claim_of name)) Input → name ≡ input
    of true h k = name_true name input h
    of false h k = absurd (no_input count (claim_of name) k)

module _ (samples : List ℕ) (fold : ℕ) where
  abbrev around : Around
  around = around_of (slide_plan fold) (slide_certificate fold) samples no_cells

  suits : Suits around (slide_given samples fold)
  suits = record {
    sources = λ name. refl;
    buffers = λ c. same_buffer (slice_get (slide_certificate fold).claims c);
    samples = λ name p e h.
        let is : name ≡ codes "in" = input_named (codes "in") 2 name e in
        ap (λ (v : Bool). if v then Some (typed U8 (sample (4 ∷ 8 ∷ []) samples p)) else None) h
        ∙ ap (λ (n : List ℕ). Some ((slide_given samples fold).calls n p)) (sym is);
  }

  first_right : AreRight around (slide_given samples fold) (actions (slide_given samples fold).outline.setting (slide_group fold).body (grid_symbols (0 ∷ [])))
  first_right = (tt, (tt, (refl, (refl, (refl, (refl, (refl, (refl, (refl, (refl, (refl, (refl, (refl, (refl, (refl, (refl, (refl, (refl, (refl, (refl, (refl, (refl, (refl, (refl, (refl, (refl, (refl, (refl, (refl, (refl, (refl, (refl, (refl, (refl, (refl, (refl, (refl, (refl, (tt, (tt, (tt, (tt, (tt, (tt, (tt, (tt, (tt, (tt, (tt, (tt, (tt, (tt, (tt, (tt, tt))))))))))))))))))))))))))))))))))))))))))))))))))))))

  second_right : AreRight around (slide_given samples fold) (actions (slide_given samples fold).outline.setting (slide_group fold).body (grid_symbols (1 ∷ [])))
  second_right = (tt, (tt, (refl, (refl, (refl, (refl, (refl, (refl, (refl, (refl, (refl, (refl, (refl, (refl, (refl, (refl, (refl, (refl, (refl, (refl, (refl, (refl, (refl, (refl, (refl, (refl, (refl, (refl, (refl, (refl, (refl, (refl, (refl, (refl, (refl, (refl, (refl, (refl, (tt, (tt, (tt, (tt, (tt, (tt, (tt, (tt, (tt, (tt, (tt, (tt, (tt, (tt, (tt, (tt, tt))))))))))))))))))))))))))))))))))))))))))))))))))))))

pub slide_runs : SlideRunsRight
slide_runs samples fold zero enough here =
    whole (around samples fold) (slide_given samples fold) (slide_group fold).body 5 (grid_symbols (0 ∷ [])) (suits samples fold) (first_right samples fold) (slide_is_sound.three_and_more samples fold 0 enough here)
slide_runs samples fold (suc zero) enough here =
    whole (around samples fold) (slide_given samples fold) (slide_group fold).body 5 (grid_symbols (1 ∷ [])) (suits samples fold) (second_right samples fold) (slide_is_sound.three_and_more samples fold 1 enough here)
slide_runs samples fold (suc (suc n)) enough here = absurd (omega arith)
