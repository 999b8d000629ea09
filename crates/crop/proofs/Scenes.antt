-- What the refusals and the algorithm of a narrow text say of the text.
use Rattle.std.proofs.Common.{◌≡◌, ℕ, ◌≤◌, ◌<◌, List, [], ◌∷◌, length, refl, sym, ap, ◌∙◌, subst, arith, ◌⊎◌, inl, inr}
use Rattle.std.specs.Prelude.{map}
use Rattle.tree.specs.Token.Cursor.{kinds}
use Rattle.tree.specs.Token.Lexical.{max_text}
use Rattle.tree.specs.Term.{Term}
use Rattle.meaning.specs.Image.View.{AreExtents}
use Rattle.meaning.specs.Algorithm.{Algorithm}
use Rattle.expr.specs.declared.statements.error.FormError.{FormError}
use Rattle.expr.specs.declared.statements.error.FormError.TheVariants as form
use Rattle.expr.specs.Statements.Text.{FileText}
use Rattle.expr.specs.Statements.Grammar.{StandsFor, IsTextOf, IsSmall}
use Rattle.expr.specs.Statements.Places.{IsRefused}
use Rattle.expr.specs.Statements.View.{file_text}
use Rattle.expr.specs.declared.statements.statement.File.{File}
use Rattle.algo.specs.declared.error.AlgoError.{AlgoError}
use Rattle.algo.specs.declared.error.AlgoError.TheVariants.{Memory}
use Rattle.algo.specs.Saying.{says, functions_said, IsWellFormed}
use Rattle.algo.specs.Keeping.{FileBreaks}
use Rattle.algo.specs.Refusal.{form_error, IsAlgorithmText, FormRefused, IsRefusedText, IsRefusedPlace}
use Rattle.algo.proofs.Converse.{well_formed_breaks_nothing, well_formed_is_small}
use Rattle.crop.specs.Narrow.{narrow_extent, narrowed, narrow_extents, narrow_file}
use Rattle.crop.specs.Texts.{IsNarrow}
use Rattle.crop.specs.Reductions.{Answers}
use Rattle.crop.specs.Scene.{IsSceneText, SceneRefused, NarrowRefused, IsRefusedScene, IsRefusedScenePlace, IsNoScene}
use Rattle.crop.specs.declared.scene_error.SceneError.{SceneError}
use Rattle.crop.specs.declared.scene_error.SceneError.TheVariants.{Text, Reduction}
use Rattle.crop.proofs.NarrowFile.{narrow_stands}

-- a text that stands for a small file is refused for want of memory alone
form_is_memory : (text : List ℕ) (fault : FormError) → length text ≤ max_text → IsRefused text fault → (file : FileText Term) → IsTextOf text file → IsSmall file → form_error fault ≡ Memory
form_is_memory text form.Memory short h file found small = refl
form_is_memory text (form.BadToken span) short h file found small = absurd (h.1 file found)
form_is_memory text (form.BadForm span) short h file found small = absurd (h.none file found)
form_is_memory text (form.TooLarge span) short (inl h) file found small = absurd (let long : max_text < length text = h.long in omega arith)
form_is_memory text (form.TooLarge span) short (inr (inl h)) file found small = absurd (h.none file found)
form_is_memory text (form.TooLarge span) short (inr (inr h)) file found small = absurd (h.none file found small)

-- ---- narrow extents
two_all : (es : List ℕ) → AreExtents (narrow_extents es) → narrow_extents es ≡ map narrow_extent es
two_all [] h = refl
two_all (w ∷ []) h = refl
two_all (w ∷ v ∷ []) h = refl
two_all (w ∷ v ∷ c ∷ []) h = let same : c ≡ 3 = h.2 in ap (λ x. narrow_extent w ∷ narrow_extent v ∷ x ∷ []) (same ∙ ap narrow_extent (sym same))
two_all (w ∷ v ∷ c ∷ d ∷ es) h = absurd h

file_alike : (f : FileText Term) → IsWellFormed (narrow_file f) → says (narrow_file f) ≡ narrowed (says f)
file_alike f w = λ i. record {
  name = f.name;
  input = f.input.name;
  input_ty = f.input.ty;
  input_extents = two_all f.input.extents w.algorithm.input_extents i;
  functions = functions_said f.statements;
  output = f.output.name;
  output_extents = two_all f.output.extents w.algorithm.output_extents i;
}

-- ---- the form of the text is refused
pub form_scene : (text : List ℕ) (fault : FormError) → IsRefused text fault → IsRefusedScene text (Text (form_error fault))
form_scene text fault h = inl (record { fault = fault; refused = h; is = refl })

pub form_place : (text : List ℕ) (fault : FormError) → IsRefused text fault → IsRefusedScenePlace text (Text (form_error fault))
form_place text fault h = inr (inl (record { fault = fault; refused = h; is = refl }))

pub form_only : (text : List ℕ) (fault : FormError) → IsRefused text fault → IsNoScene text (Text (form_error fault))
form_only text fault h short a s = ap Text (form_is_memory text fault short h s.file s.found (well_formed_is_small (narrow_file s.file) s.kept))

pub memory_only : (text : List ℕ) → IsNoScene text (Text Memory)
memory_only text short a s = refl

module _ (text narrow : List ℕ) (f : FileText Term) (found : IsTextOf text f) (only : (other : FileText Term) → IsTextOf text other → other ≡ f) (small : IsSmall f) (n : IsNarrow text narrow) where
  narrow_found : IsTextOf narrow (narrow_file f)
  narrow_found = subst (λ t. IsTextOf t (narrow_file f)) (sym n.is)
      (narrow_stands text n.lexemes f n.tokens (subst (λ ls. StandsFor (kinds ls) f) (n.only found.lexemes found.tokens) found.stands))

  form_memory : (e : AlgoError) → FormRefused narrow e → e ≡ Memory
  form_memory e h = h.is ∙ form_is_memory narrow h.fault n.short h.refused (narrow_file f) narrow_found small

  -- ---- the algorithm of the narrow text
  narrow_kept : (a : Algorithm) → IsAlgorithmText narrow a → IsWellFormed (narrow_file f)
  narrow_kept a is = subst IsWellFormed (sym (is.only (narrow_file f) narrow_found)) is.kept

  pub narrow_said : (a : Algorithm) → IsAlgorithmText narrow a → a ≡ narrowed (says f)
  narrow_said a is = is.said ∙ ap says (sym (is.only (narrow_file f) narrow_found)) ∙ file_alike f (narrow_kept a is)

  pub scene_text : (a b : Algorithm) → IsAlgorithmText narrow a → b ≡ says f → IsSceneText text b
  scene_text a b is said = record { file = f; found = found; only = only; said = said; kept = narrow_kept a is }

  -- ---- refusals
  pub memory_refused : SceneRefused text Memory
  memory_refused = record { file = f; found = found; only = only; broken = inl tt }

  pub scene_refused : (e : AlgoError) → IsRefusedText narrow e → SceneRefused text e
  scene_refused e (inl h) = subst (SceneRefused text) (sym (form_memory e h)) memory_refused
  scene_refused e (inr h) = record {
    file = f;
    found = found;
    only = only;
    broken = subst (λ x. FileBreaks x e) (sym (h.only (narrow_file f) narrow_found)) h.broken;
  }

  pub refused_place : (e : AlgoError) → IsRefusedPlace narrow e → (e ≡ Memory) ⊎ FormRefused text e ⊎ NarrowRefused text e
  refused_place e (inl h) = inl (form_memory e h)
  refused_place e (inr h) = inr (inr (record { narrow = narrow; is = n; place = h }))

  pub no_scene : (e : AlgoError) → IsRefusedText narrow e → (a : Algorithm) → IsSceneText text a → e ≡ Memory
  no_scene e (inl h) a s = form_memory e h
  no_scene e (inr h) a s =
      well_formed_breaks_nothing h.file e h.broken (subst IsWellFormed (ap (λ (x : FileText Term). narrow_file x) (only s.file s.found) ∙ h.only (narrow_file f) narrow_found) s.kept)

-- ---- what is answered where the narrow text is refused
module _ (text narrow : List ℕ) (file : File) (found : IsTextOf text (file_text file)) (only : (one : FileText Term) → IsTextOf text one → one ≡ file_text file) (small : IsSmall (file_text file))
    (n : IsNarrow text narrow) (e : AlgoError) where
  pub answered_refused : (r : SceneError) → IsRefusedText narrow e → Answers file e r → IsRefusedScene text r
  answered_refused (Text x) h (inl same) = inr (subst (SceneRefused text) (sym same) (scene_refused text narrow (file_text file) found only small n e h))
  answered_refused (Text x) h (inr none) = inr (subst (SceneRefused text) (sym none) (memory_refused text narrow (file_text file) found only small n))
  answered_refused (Reduction name) h a = record { file = file_text file; found = found; only = only; large = a.0 }

  pub answered_place : (r : SceneError) → IsRefusedPlace narrow e → Answers file e r → IsRefusedScenePlace text r
  answered_place (Text x) h (inl same) =
      subst (λ (y : AlgoError). (y ≡ Memory) ⊎ FormRefused text y ⊎ NarrowRefused text y) (sym same) (refused_place text narrow (file_text file) found only small n e h)
  answered_place (Text x) h (inr none) = inl none
  answered_place (Reduction name) h a = tt

  pub answered_only : (r : SceneError) → IsRefusedText narrow e → Answers file e r → IsNoScene text r
  answered_only (Text x) h (inl same) short a s = ap Text (same ∙ no_scene text narrow (file_text file) found only small n e h a s)
  answered_only (Text x) h (inr none) short a s = ap Text none
  answered_only (Reduction name) h k short a s = absurd (k.1 (no_scene text narrow (file_text file) found only small n e h a s))
