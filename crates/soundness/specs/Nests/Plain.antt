-- Nests in plain form, and that the tests say yes to them.
use Rattle.std.specs.Prelude.{◌≡◌, ℕ, suc, ◌&&◌, Bool, true, false, List, [], ◌∷◌, ◌++◌, map, reverse, length, Option, Some, None}
use Rattle.std.specs.List.{list_all}
use Rattle.tree.specs.Term.{Term}
use Rattle.lin.specs.Forms.{Form, is_within_limits}
use Rattle.lin.specs.Search.{at_most}
use Rattle.lin.specs.declared.scope.Binding.{Binding}
use Rattle.lin.specs.declared.span.Span1.{Span1}
use Rattle.meaning.specs.Algorithm.{Range}
use Rattle.plan.specs.declared.stmt.Places.{Places}
use Rattle.plan.specs.declared.stmt.Places.TheVariants.{From, Folded}
use Rattle.plan.specs.Plan.{Coordinate, Statement, Fetch, Store}
use Rattle.plan.specs.Semantics.Actions.{Setting}
use Rattle.plan.specs.Certificate.Certificate.{Claim}
use Rattle.soundness.specs.Claims.{In}
use Rattle.soundness.specs.Origins.{Outline}
use Rattle.soundness.specs.Obligations.{Binder, Rules, is_form}
use Rattle.soundness.specs.Shown.{are_seated}
use Rattle.soundness.specs.Nests.Nest.{Loop, nest_of, is_symbol}
use Rattle.soundness.specs.Nests.Tests.{are_matched, span_at, is_among, has_ends, range_span, left_of, over_of, is_new, binders_in, known_span, plain_nests}

-- a form within the limits is shown to be at most itself
abbrev pub SaysSame : Rules → Type 0
SaysSame rules = (bs : List Binder) (f : Form) → is_within_limits f ≡ true → rules.at_most bs f f ≡ true

-- as the rules of bounds show of every such form
abbrev pub FormsAreAtMostThemselves : Type 0
FormsAreAtMostThemselves = (scope : List Binding) (f : Form) → is_within_limits f ≡ true → at_most scope f f ≡ true

-- all forms of the span are within the limits
abbrev pub is_small : Span1 → Bool
is_small x = list_all is_within_limits x.lower && list_all is_within_limits x.upper

-- the coordinate is not folded
abbrev pub is_straight : Places → Bool
is_straight (From l n) = true
is_straight (Folded n) = false

-- the loops are those of the coordinates, one after another, and each has its range's ends
abbrev pub AreReduced : List Loop → List Coordinate → List Range → Type 0
AreReduced [] [] [] = Unit {0}
AreReduced (l ∷ ls) (c ∷ cs) (d ∷ ds) = (is_symbol l.symbol c ≡ true) × (l.span ≡ range_span d) × (is_small (range_span d) ≡ true) × AreReduced ls cs ds
AreReduced _ _ _ = ⊥

-- of these loops the claim's region is the span at the coordinate that is the loop's symbol
pub record IsRegionOf (ls : List Loop) (left : List Coordinate) (region : List Span1) : Type 0 where
  pub many : length left ≡ length region
  pub spans : (l : Loop) → In l ls → span_at l.symbol left region ≡ Some l.span
  pub small : (l : Loop) → In l ls → is_small l.span ≡ true

module _ (setting : Setting) (rules : Rules) (domain : List ℕ → ℕ → Option (List Range)) (bs : List Binder) (claim : Claim) where
  -- a nest of the pure definition in a buffer that is not folded: the claim's region is the loops' spans, the loops' symbols are
  -- new, and the store is shown to lie in its buffer
  pub record IsPlainNest (places : List Places) (ls : List Loop) (b : ℕ) (at : List Coordinate) : Type 0 where
    pub definition : claim.definition ≡ 0
    pub function : setting.buffer_function b ≡ claim.function
    pub forms : list_all is_form (left_of setting b at) ≡ true
    pub pure : over_of setting b at ≡ []
    pub matched : are_matched ls (left_of setting b at) ≡ true
    pub region : IsRegionOf ls (left_of setting b at) claim.region
    pub straight : list_all is_straight places ≡ true
    pub new : list_all (is_new bs places) ls ≡ true
    pub seated : are_seated rules (binders_in ls bs) (map known_span (left_of setting b at)) places ≡ true

  -- a fetch of the claim's region
  pub record IsPlainFetch (places : List Places) (g : ℕ) (region : List Span1) : Type 0 where
    pub definition : claim.definition ≡ rules.last claim.function
    pub function : setting.group_function g ≡ claim.function
    pub same : region ≡ claim.region
    pub small : (x : Span1) → In x region → (is_small x ≡ true) × (has_ends x ≡ true)
    pub straight : list_all is_straight places ≡ true
    pub seated : are_seated rules bs region places ≡ true

  -- an update's nest: its pure loops round those of its reduction, of which the last variable's is the outermost, over the whole
  -- domain
  pub record IsPlainUpdate (ls : List Loop) (b k : ℕ) (at : List Coordinate) : Type 0 where
    pub definition : claim.definition ≡ suc k
    pub function : setting.buffer_function b ≡ claim.function
    pub forms : list_all is_form (over_of setting b at) ≡ true
    pub matched : are_matched ls (left_of setting b at ++ over_of setting b at) ≡ true
    pub pure : List Loop
    pub reduced : List Loop
    pub loops : ls ≡ pure ++ reduced
    pub outer : (l : Loop) → In l pure → is_among (over_of setting b at) l ≡ false
    pub inner : (l : Loop) → In l reduced → is_among (over_of setting b at) l ≡ true
    pub ranges : List Range
    pub known : domain claim.function (suc k) ≡ Some ranges
    pub whole : AreReduced reduced (reverse (over_of setting b at)) (reverse ranges)
    pub region : IsRegionOf pure (left_of setting b at) claim.region

-- the tests say yes to what is in plain form
pub record AcceptsPlain (outline : Outline) (rules : Rules) (domain : List ℕ → ℕ → Option (List Range)) (bs : List Binder) (c : ℕ) (places : List Places) (a : Statement) (ls : List Loop) : Type 0 where
  pub nest : (b : ℕ) (at : List Coordinate) (e : Term) → nest_of a (outline.claim c).buffer ≡ Some (record { loops = ls; line = Store b 0 at e }) →
      IsPlainNest outline.setting rules domain bs (outline.claim c) places ls b at → (plain_nests outline rules domain).is_made bs c None places a ≡ true
  pub fetch : (b g : ℕ) (region : List Span1) → nest_of a (outline.claim c).buffer ≡ Some (record { loops = []; line = Fetch b g region }) →
      IsPlainFetch outline.setting rules domain bs (outline.claim c) places g region → (plain_nests outline rules domain).is_made bs c None places a ≡ true
  pub update : (b k : ℕ) (at : List Coordinate) (e : Term) → nest_of a (outline.claim c).buffer ≡ Some (record { loops = ls; line = Store b (suc k) at e }) →
      IsPlainUpdate outline.setting rules domain bs (outline.claim c) ls b k at →
      ((plain_nests outline rules domain).is_made bs c (Some k) places a ≡ true) × ((plain_nests outline rules domain).is_in_turn bs c a ≡ true)

abbrev pub PlainNestsAreAccepted : Type 0
PlainNestsAreAccepted =
    (outline : Outline) (rules : Rules) (domain : List ℕ → ℕ → Option (List Range)) → SaysSame rules →
    (bs : List Binder) (c : ℕ) (places : List Places) (a : Statement) (ls : List Loop) → AcceptsPlain outline rules domain bs c places a ls
