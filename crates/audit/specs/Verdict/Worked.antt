-- A plan of two groups that is accepted by the checker's own rules, and what is wrong with it where a line is altered.
use Rattle.std.specs.Prelude.{◌∷◌, [], codes, pos}
use Rattle.numeric.specs.declared.op.Op.TheVariants.{Add}
use Rattle.tree.specs.Term.{Name, Binary}
use Rattle.lin.specs.Forms.{number}
use Rattle.lin.specs.declared.span.Span1.{Span1}
use Rattle.plan.specs.Plan.{Alloc, Fetch, Store, Publish, Seq, block, Group, Plan}
use Rattle.plan.specs.declared.stmt.Places.TheVariants.{From}
use Rattle.plan.specs.Certificate.Certificate.{Certificate}
use Rattle.plan.specs.Semantics.Worked.{symbol, between, constants, is, loop, load}
use Rattle.audit.specs.Verdict.Accepted.{IsAccepted}
use Rattle.audit.specs.Verdict.Faults.{IsFault}
use Rattle.audit.specs.Verdict.Shown.Worked.{both, f_group, here, two, two_certificate, two_plan}

-- the own region of the first group, whose line is 19, is another
abbrev pub with_own : Span1 → Certificate
with_own x = record two_certificate { own = record { group = 0; region = x ∷ [] } ∷ record { group = 1; region = both ∷ [] } ∷ [] }

-- piece s0 owns the cells 0 to s0, so that both own cell 0
abbrev pub twice_owned : Certificate
twice_owned = with_own (between (number (pos 0)) (symbol 0))

-- piece s0 owns the cells s0 to 0: cell 1 is no one's
abbrev pub not_owned : Certificate
not_owned = with_own (between (symbol 0) (number (pos 0)))

-- the second group needs piece 0 alone, at line 21
abbrev pub less_needed : Certificate
less_needed = record two_certificate { needs = record { group = 1; needed = 0; region = constants (pos 0) (pos 0) ∷ [] } ∷ [] }

-- cell 0 alone is claimed of what is fetched, so that the load of the other end, at line 15, lies outside
abbrev pub less_claimed : Certificate
less_claimed = record two_certificate {
  claims =
      record { line = 8; buffer = 0; function = codes "f"; definition = 0; region = here ∷ [] }
      ∷ record { line = 12; buffer = 0; function = codes "f"; definition = 0; region = constants (pos 0) (pos 0) ∷ [] }
      ∷ record { line = 16; buffer = 1; function = codes "out"; definition = 0; region = both ∷ [] } ∷ [];
}

-- the second group stores the sum of f with itself, at line 15
abbrev pub other_group : Group
other_group = record {
  function = codes "out";
  region = constants (pos 0) (pos 1) ∷ [];
  grid = 1 ∷ [];
  body = Seq (block (
      Alloc 0 (codes "f") (From (number (pos 0)) 2 ∷ [])
      ∷ Fetch 0 0 (constants (pos 0) (pos 1) ∷ [])
      ∷ Alloc 1 (codes "out") (From (number (pos 0)) 2 ∷ [])
      ∷ loop 1 both (Store 1 0 (is (codes "x") (symbol 1) ∷ []) (Binary Add (load 1 (Name (codes "x") ∷ [])) (load 1 (Name (codes "x") ∷ []))) ∷ [])
      ∷ Publish 2 ∷ []));
}

abbrev pub other_plan : Plan
other_plan = record two_plan { groups = f_group ∷ other_group ∷ [] }

pub record WorkedPlansAreAccepted : Type 0 where
  -- by the checker's own rules all that is asked of the plan is so
  pub accepted : IsAccepted two two_plan two_certificate
  -- a cell owned twice, a cell without an owner, a fetched cell that no needed piece owns, another definition, a load outside its claim
  pub twice : IsFault two two_plan twice_owned 9 19
  pub gap : IsFault two two_plan not_owned 10 19
  pub unserved : IsFault two two_plan less_needed 11 21
  pub other : IsFault two other_plan two_certificate 12 15
  pub outside : IsFault two two_plan less_claimed 5 15
