-- Images that are whole: they have the shape that they state.
use Rattle.std.specs.Prelude.{ℕ, List, [], ◌∷◌}
use Rattle.std.proofs.Props.{props}
use Rattle.numeric.specs.declared.ty.Ty.{Ty}
use Rattle.numeric.specs.declared.ty.Ty.TheVariants.{U8, U16, U32, I8, I16, I32}
use Rattle.meaning.specs.Image.View.{Frame, Picture, IsSampleType, AreExtents, IsShape, HasShape}

-- the type and the extents that a picture states
abbrev pub own_frame : Picture → Frame
own_frame p = record { ty = p.ty; extents = p.extents }

-- the picture states a shape that an image can have, and has it
pub record IsWhole (p : Picture) : Type 0 where
  pub valid : IsShape (own_frame p)
  pub has : HasShape (own_frame p) p

-- that a picture is whole has at most one proof
sample_type : (t : Ty) → IsProp (IsSampleType t)
sample_type U8 = Prim.hlevel props
sample_type U16 = Prim.hlevel props
sample_type U32 = Prim.hlevel props
sample_type I8 = Prim.hlevel props
sample_type I16 = Prim.hlevel props
sample_type I32 = Prim.hlevel props

extents : (es : List ℕ) → IsProp (AreExtents es)
extents [] = Prim.hlevel props
extents (w ∷ []) = Prim.hlevel props
extents (w ∷ h ∷ []) = Prim.hlevel props
extents (w ∷ h ∷ c ∷ []) = Prim.hlevel props
extents (w ∷ h ∷ c ∷ d ∷ es) = Prim.hlevel props

pub IsWhole-prop : (p : Picture) → IsProp (IsWhole p)
IsWhole-prop p = Prim.hlevel (props, sample_type p.ty, extents p.extents)
