-- What an algorithm, an input, a plan and its certificate give.
use Rattle.std.specs.Prelude.{ℕ, zero, suc, ◌==◌, ◌&&◌, Bool, true, false, if◌then◌else◌, List, [], ◌∷◌, length, Option, Some, None, ℤ, slice_get, int_le}
use Rattle.tree.specs.declared.value.Value.{Value}
use Rattle.tree.specs.Meaning.{typed}
use Rattle.meaning.specs.Image.Raster.{is_within}
use Rattle.meaning.specs.Algorithm.{Range, Change, Function, Algorithm}
use Rattle.meaning.specs.Names.{same_name}
use Rattle.meaning.specs.Value.{calls_of, value_at_step, steps_before, all_steps, step_at}
use Rattle.plan.specs.Plan.{Group, Plan}
use Rattle.plan.specs.Certificate.Certificate.{Claim, Certificate}
use Rattle.plan.specs.Semantics.Run.{source_of}
use Rattle.plan.specs.Semantics.Setting.{setting_of}
use Rattle.soundness.specs.Origins.{Origin, Outline, Given}

-- the first function of this name
abbrev pub function_named : List Function → List ℕ → Option Function
function_named [] name = None
function_named (f ∷ fs) name = if same_name f.name name then Some f else function_named fs name

-- a claim that is never in force, for numbers of no claim
abbrev pub no_claim : Claim
no_claim = record { line = 0; buffer = 0; function = []; definition = 0; region = [] }

abbrev pub claim_or_none : Option Claim → Claim
claim_or_none None = no_claim
claim_or_none (Some c) = c

-- the numbers of the claims of the statement that ends at the line, from k on
abbrev pub named_from : ℕ → List Claim → ℕ → List ℕ
named_from k [] line = []
named_from k (c ∷ cs) line = if c.line == line then k ∷ named_from (suc k) cs line else named_from (suc k) cs line

abbrev pub steps_in : Option Function → ℕ → ℕ
steps_in None k = 0
steps_in (Some f) k = steps_before f k

abbrev pub all_steps_in : Option Function → ℕ
all_steps_in None = 0
all_steps_in (Some f) = all_steps f

-- the update of this number, where definition 0 is the pure one
abbrev pub update_in : Option Function → ℕ → Option Change
update_in None k = None
update_in (Some f) zero = None
update_in (Some f) (suc k) = slice_get f.changes k

abbrev pub is_in : List Range → List ℤ → Bool
is_in [] [] = true
is_in (d ∷ ds) (z ∷ zs) = int_le d.low z && int_le z d.high && is_in ds zs
is_in _ _ = false

abbrev pub is_in_domain : Option Change → List ℤ → Bool
is_in_domain None r = false
is_in_domain (Some u) r = is_in u.ranges r

abbrev pub step_of : Function → ℕ → Option Change → List ℤ → ℕ
step_of f k None r = 0
step_of f k (Some u) r = step_at f k u r

abbrev pub step_in : Option Function → ℕ → List ℤ → ℕ
step_in None k r = 0
step_in (Some f) zero r = 0
step_in (Some f) (suc k) r = step_of f k (slice_get f.changes k) r

-- what the plan and the certificate give for a group of this number
abbrev pub outline_of : Plan → Certificate → ℕ → Group → Outline
outline_of p c number g = record {
  setting = setting_of p c number g;
  source = source_of p.input.name (length c.claims);
  claim = λ k. claim_or_none (slice_get c.claims k);
  named = named_from 0 c.claims;
  windows = c.windows;
}

module _ (a : Algorithm) (samples : List ℕ) where
  -- the value of a function at a point after so many steps
  abbrev pub origin_value : Option Function → Origin → Value
  origin_value None o = calls_of a samples o.function o.point
  origin_value (Some f) o = typed f.ty (value_at_step (calls_of a samples) f o.done o.point)

  abbrev pub given_of : Outline → Given
  given_of outline = record {
    outline = outline;
    in_input = is_within a.input_extents;
    calls = calls_of a samples;
    steps = λ f k. steps_in (function_named a.functions f) k;
    all_steps = λ f. all_steps_in (function_named a.functions f);
    in_domain = λ f k r. is_in_domain (update_in (function_named a.functions f) k) r;
    step_at = λ f k r. step_in (function_named a.functions f) k r;
    value_at = λ o. origin_value (function_named a.functions o.function) o;
  }
