-- Scenes: algorithms whose extents may be wide, and the texts that say them.
use Rattle.std.specs.Prelude.{◌≡◌, ◌≤◌, ◌⊎◌, ℕ, List, length, string_bytes}
use Rattle.tree.specs.Token.Lexical.{max_text}
use Rattle.tree.specs.Term.{Term}
use Rattle.meaning.specs.Algorithm.{Algorithm}
use Rattle.expr.specs.Statements.Text.{FileText}
use Rattle.expr.specs.Statements.Grammar.{IsTextOf}
use Rattle.algo.specs.Saying.{says, IsWellFormed}
use Rattle.algo.specs.Keeping.{FileBreaks}
use Rattle.algo.specs.Refusal.{FormRefused, PlaceRefused}
use Rattle.algo.specs.View.{algorithm_of}
use Rattle.algo.specs.declared.error.AlgoError.{AlgoError}
use Rattle.algo.specs.declared.error.AlgoError.TheVariants.{Memory}
use Rattle.crop.specs.Narrow.{narrow_file}
use Rattle.crop.specs.Texts.{IsNarrow}
use Rattle.crop.specs.Reductions.{HasLargeReduction}
use Rattle.crop.specs.declared.scene.Scene.{Scene}
use Rattle.crop.specs.declared.scene_error.SceneError.{SceneError}
use Rattle.crop.specs.declared.scene_error.SceneError.TheVariants.{Text, Reduction}

abbrev pub with_extents : Algorithm → List ℕ → List ℕ → Algorithm
with_extents a input output = record {
  name = a.name;
  input = a.input;
  input_ty = a.input_ty;
  input_extents = input;
  functions = a.functions;
  output = a.output;
  output_extents = output;
}

abbrev pub scene_of : Scene → Algorithm
scene_of s = with_extents (algorithm_of s.algo) s.input_extents.items s.output_extents.items

-- the text stands for one file and nothing else, which is well formed but for its wide extents, and says the algorithm
pub record IsSceneText (text : List ℕ) (a : Algorithm) : Type 0 where
  pub file : FileText Term
  pub found : IsTextOf text file
  pub only : (other : FileText Term) → IsTextOf text other → other ≡ file
  pub said : a ≡ says file
  pub kept : IsWellFormed (narrow_file file)

-- the text stands for one file and nothing else, and a statement of it does not keep the condition that the error names, its
-- wide extents aside
pub record SceneRefused (text : List ℕ) (e : AlgoError) : Type 0 where
  pub file : FileText Term
  pub found : IsTextOf text file
  pub only : (other : FileText Term) → IsTextOf text other → other ≡ file
  pub broken : FileBreaks (narrow_file file) e

-- the text stands for one file and nothing else, and an update of the function has a reduction domain past the limits
pub record ReductionRefused (text name : List ℕ) : Type 0 where
  pub file : FileText Term
  pub found : IsTextOf text file
  pub only : (other : FileText Term) → IsTextOf text other → other ≡ file
  pub large : HasLargeReduction file name

-- why a text is no scene
abbrev pub IsRefusedScene : List ℕ → SceneError → Type 0
IsRefusedScene text (Text e) = FormRefused text e ⊎ SceneRefused text e
IsRefusedScene text (Reduction name) = ReductionRefused text (string_bytes name)

-- the text with 1 for each wide extent is refused at the error's place
pub record NarrowRefused (text : List ℕ) (e : AlgoError) : Type 0 where
  pub narrow : List ℕ
  pub is : IsNarrow text narrow
  pub place : PlaceRefused narrow e

-- the form of the text is refused at this place, or a statement of it, its wide extents aside, breaks the condition of the
-- code there
abbrev pub IsRefusedScenePlace : List ℕ → SceneError → Type 0
IsRefusedScenePlace text (Text e) = (e ≡ Memory) ⊎ FormRefused text e ⊎ NarrowRefused text e
IsRefusedScenePlace text (Reduction name) = Unit {0}

-- the text is no scene, unless the error is want of memory; a text that is too long is not looked at
abbrev pub IsNoScene : List ℕ → SceneError → Type 0
IsNoScene text e = length text ≤ max_text → (a : Algorithm) → IsSceneText text a → e ≡ Text Memory
