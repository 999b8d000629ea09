-- A plan of two groups whose pieces have shares, and what is wrong with them where its certificate is altered.
use Rattle.std.specs.Prelude.{◌∷◌, [], codes, pos}
use Rattle.numeric.specs.declared.ty.Ty.TheVariants.{U8}
use Rattle.lin.specs.Forms.{number}
use Rattle.lin.specs.declared.span.Span1.{Span1}
use Rattle.plan.specs.Plan.{Alloc, Fetch, Store, Publish, Seq, block, Group, Plan}
use Rattle.plan.specs.declared.stmt.Places.TheVariants.{From}
use Rattle.plan.specs.Certificate.Certificate.{Certificate}
use Rattle.plan.specs.Semantics.Worked.{symbol, between, constants, is, loop, load}
use Rattle.soundness.specs.declared.outline.refusals.code.K.TheVariants.{K9, K10, K11}
use Rattle.shares.specs.declared.answer.SharesError.TheVariants.{Flaw as Told}
use Rattle.shares.specs.Has.{HasShares}
use Rattle.shares.specs.Made.{ErrorMeans}

-- ---- f in two pieces, and out in one that fetches both cells of f; what is stored says nothing of shares

-- the grid's symbol alone, and both coordinates
abbrev pub here : Span1
here = between (symbol 0) (symbol 0)

abbrev pub both : Span1
both = constants (pos 0) (pos 1)

abbrev pub f_group : Group
f_group = record {
  function = codes "f";
  region = constants (pos 0) (pos 1) ∷ [];
  grid = 2 ∷ [];
  body = Seq (block (
      Alloc 0 (codes "f") (From (symbol 0) 1 ∷ [])
      ∷ loop 1 here (Store 0 0 (is (codes "x") (symbol 1) ∷ []) (load 0 []) ∷ [])
      ∷ Publish 0 ∷ []));
}

abbrev pub out_group : Group
out_group = record {
  function = codes "out";
  region = constants (pos 0) (pos 1) ∷ [];
  grid = 1 ∷ [];
  body = Seq (block (
      Alloc 0 (codes "f") (From (number (pos 0)) 2 ∷ [])
      ∷ Fetch 0 0 (constants (pos 0) (pos 1) ∷ [])
      ∷ Alloc 1 (codes "out") (From (number (pos 0)) 2 ∷ [])
      ∷ loop 1 both (Store 1 0 (is (codes "x") (symbol 1) ∷ []) (load 1 []) ∷ [])
      ∷ Publish 2 ∷ []));
}

abbrev pub pair_plan : Plan
pair_plan = record {
  name = codes "two";
  input = record { name = codes "in"; ty = U8; extents = 2 ∷ [] };
  output = record { name = codes "out"; ty = U8; extents = 2 ∷ [] };
  groups = f_group ∷ out_group ∷ [];
}

-- the own lines are 19 and 20, the need line is 21
abbrev pub pair_certificate : Certificate
pair_certificate = record {
  own = record { group = 0; region = here ∷ [] } ∷ record { group = 1; region = both ∷ [] } ∷ [];
  needs = record { group = 1; needed = 0; region = both ∷ [] } ∷ [];
  claims =
      record { line = 8; buffer = 0; function = codes "f"; definition = 0; region = here ∷ [] }
      ∷ record { line = 12; buffer = 0; function = codes "f"; definition = 0; region = both ∷ [] }
      ∷ record { line = 16; buffer = 1; function = codes "out"; definition = 0; region = both ∷ [] } ∷ [];
  windows = [];
}

-- ---- altered

-- the own region of the first group is another
abbrev pub with_own : Span1 → Certificate
with_own s = record pair_certificate { own = record { group = 0; region = s ∷ [] } ∷ record { group = 1; region = both ∷ [] } ∷ [] }

-- piece s0 owns the cells 0 to s0, so that both own cell 0
abbrev pub twice_owned : Certificate
twice_owned = with_own (between (number (pos 0)) (symbol 0))

-- piece s0 owns the cells s0 to 0: cell 1 is no one's
abbrev pub not_owned : Certificate
not_owned = with_own (between (symbol 0) (number (pos 0)))

-- the second group needs piece 0 alone
abbrev pub less_needed : Certificate
less_needed = record pair_certificate { needs = record { group = 1; needed = 0; region = constants (pos 0) (pos 0) ∷ [] } ∷ [] }

pub record SharesAreWorked : Type 0 where
  -- the pieces have shares
  pub has : HasShares pair_plan pair_certificate
  -- a cell owned twice, a cell without an owner, a fetched cell that no needed piece owns
  pub twice : ErrorMeans pair_plan twice_owned (Told (record { code = K9; line = 19 }))
  pub gap : ErrorMeans pair_plan not_owned (Told (record { code = K10; line = 19 }))
  pub unserved : ErrorMeans pair_plan less_needed (Told (record { code = K11; line = 21 }))
