-- The head of a plan: its name, its input and its output, as the algorithm has them.
use Rattle.std.specs.Prelude.{◌≡◌, ℕ, List, string_bytes}
use Rattle.meaning.specs.Algorithm.{Algorithm}
use Rattle.meaning.specs.Image.View.{Frame}
use Rattle.algo.specs.Parts.{input_frame, output_frame}
use Rattle.plan.specs.declared.plan.Declaration.{Declaration}
use Rattle.plan.specs.declared.plan.Plan.{Plan}

-- by this name, of this type and with these extents
pub record IsDeclared (name : List ℕ) (frame : Frame) (d : Declaration) : Type 0 where
  pub named : string_bytes d.name ≡ name
  pub ty : d.ty ≡ frame.ty
  pub extents : d.extents.items ≡ frame.extents

pub record IsHeadOf (a : Algorithm) (p : Plan) : Type 0 where
  pub named : string_bytes p.name ≡ a.name
  pub input : IsDeclared a.input (input_frame a) p.input
  pub output : IsDeclared a.output (output_frame a) p.output
