-- The need lines of groups, of which those that name the same pieces at all grid points are looked at once.
use Rattle.std.specs.Prelude.{◌≡◌, ℕ, Bool, ◌&&◌, List, length, map, Some, Contains, ◌↔◌, ◌⊎◌, slice_get}
use Rattle.std.specs.List.{list_all}
use Rattle.lin.specs.Forms.{Form}
use Rattle.lin.specs.Search.{is_empty}
use Rattle.lin.specs.declared.span.Span1.{Span1}
use Rattle.plan.specs.Plan.{Plan}
use Rattle.plan.specs.declared.certificate.cert.Need.{Need}
use Rattle.plan.specs.Certificate.Cells.{Piece}
use Rattle.shares.specs.declared.gathered.GroupNeeds.{GroupNeeds}
use Rattle.shares.specs.Filed.{needs_in, AreLinesOf}
use Rattle.shares.specs.Needed.{all_numbers, NeedsAreInside}

-- whether a form names no symbol, and whether the forms of a span and of a region do: such a region has the same points everywhere
abbrev pub is_free : Form → Bool
is_free f = is_empty f.terms

abbrev pub is_fixed_span : Span1 → Bool
is_fixed_span x = list_all is_free x.lower && list_all is_free x.upper

abbrev pub is_fixed : List Span1 → Bool
is_fixed xs = list_all is_fixed_span xs

-- these pieces and what these lines name are what need lines of a group name at each of its pieces
pub record AreGathered (p : Plan) (g : ℕ) (ns : List Need) (numbers : List ℕ) (moving : List Need) : Type 0 where
  pub lines : AreLinesOf p g moving
  pub named : (j : Piece) → j.group ≡ g → (i : ℕ) → (Contains (all_numbers p j moving) i ⊎ Contains numbers i) ↔ Contains (all_numbers p j ns) i
  pub inside : (j : Piece) → j.group ≡ g → NeedsAreInside p j moving ↔ NeedsAreInside p j ns

-- a group's need lines
abbrev pub IsGathered : Plan → ℕ → List Need → GroupNeeds → Type 0
IsGathered p g ns x = AreGathered p g ns x.numbers.items (map (λ n. n.now) x.moving.items)

-- the need lines of each of so many groups
pub record EachIsGathered (p : Plan) (ns : List Need) (groups : ℕ) (xs : List GroupNeeds) : Type 0 where
  pub count : length xs ≡ groups
  pub each : (g : ℕ) (x : GroupNeeds) → slice_get xs g ≡ Some x → IsGathered p g (needs_in ns g) x
