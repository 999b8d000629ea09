-- The origins of a piece's own places name symbols of the grid and of the lets over it.
use Rattle.std.proofs.Common.{◌≡◌, ℕ, suc, Bool, true, false, List, [], ◌∷◌, length, map, Option, Some, None, refl, ap}
use Rattle.std.specs.Prelude.{ℤ, pos, if◌then◌else◌}
use Rattle.std.specs.List.{AllByRecursion}
use Rattle.std.specs.Option.{option_map}
use Rattle.std.specs.Ordering.{int_eq}
use Rattle.lin.specs.Forms.{Form, number}
use Rattle.meaning.specs.Names.{same_name}
use Rattle.sched.specs.declared.schedule.Split.{Split}
use Rattle.sched.specs.declared.schedule.Tail.{Tail}
use Rattle.sched.specs.declared.schedule.Tail.TheVariants.{Guard, Roundup, Shift}
use Rattle.sched.specs.declared.numbers.Numbers.{Numbers}
use Rattle.sched.specs.declared.skeleton.Known.{Known}
use Rattle.sched.specs.Numbers.{numbers_named}
use Rattle.sched.specs.Standing.{form_named}
use Rattle.blocks.specs.Blocks.{multiple_from, BlockText, PartText, Whole, Run, Scattered, LayText, alone_by, plus_if, is_parallel_named, uncut, origin_over, is_guarded}
use Rattle.sched.specs.Blocks.{factor_of}
use Rattle.blocks.specs.Blocks.{origin_within, within_by, joined, part_of, places_by, dimension_by, dimension_of, own_places}
use Rattle.completeness.proofs.Only.{Only, only_plus}
use Rattle.completeness.proofs.Standing.{OnlyIf, named_if}
use Rattle.completeness.proofs.Sited.{PlaceOnly}

module _ (P : ℕ → Type 0) (l : LayText) (known : AllByRecursion (λ (k : Known). Only P k.form) l.known) (starts : AllByRecursion (λ (k : Known). Only P k.form) l.starts) where
  abbrev OriginOnly : PartText → Type 0
  OriginOnly Whole = Unit {0}
  OriginOnly (Run b) = OnlyIf P b.origin
  OriginOnly Scattered = Unit {0}

  mapped : (low factor : ℤ) (o : Option Form) → OnlyIf P o → OnlyIf P (option_map (multiple_from low factor) o)
  mapped low factor None h = tt
  mapped low factor (Some f) h = only_plus P (number low) factor f tt h

  added : (o q : Option Form) → OnlyIf P o → OnlyIf P q → OnlyIf P (plus_if o q)
  added (Some f) (Some g) h k = only_plus P f (pos 1) g h k
  added (Some f) None h k = tt
  added None q h k = tt

  uncut_only : (x : List ℕ) → OriginOnly (uncut l x)
  uncut_only x = of (is_parallel_named l x) (form_named l.known x) (named_if P l.known x known)
    where
      of : (b : Bool) (o : Option Form) → OnlyIf P o → OriginOnly (if b then alone_by o else Whole)
      of true None h = tt
      of true (Some f) h = h
      of false o h = tt

  over_only : (c : Split) (own : Numbers) (outer : BlockText) → OnlyIf P outer.origin → OnlyIf P (origin_over l c own outer)
  over_only c own outer h = of c.tail (mapped own.low (factor_of c) outer.origin h) (if_so (int_eq outer.length (pos 1)) (form_named l.starts c.whole) (named_if P l.starts c.whole starts))
    where
      if_so : (b : Bool) (o : Option Form) → OnlyIf P o → OnlyIf P (if b then o else None)
      if_so true o k = k
      if_so false o k = tt

      of : (t : Tail) → OnlyIf P (option_map (multiple_from own.low (factor_of c)) outer.origin) → OnlyIf P (if int_eq outer.length (pos 1) then form_named l.starts c.whole else None) →
          OnlyIf P (elim t [
            | Guard ↦ option_map (multiple_from own.low (factor_of c)) outer.origin
            | Roundup ↦ option_map (multiple_from own.low (factor_of c)) outer.origin
            | Shift ↦ if int_eq outer.length (pos 1) then form_named l.starts c.whole else None
          ])
      of Guard k m = k
      of Roundup k m = k
      of Shift k m = m

  within_only : (c : Split) (cs : List Split) (outer inner : BlockText) → OnlyIf P outer.origin → OnlyIf P inner.origin → OnlyIf P (origin_within l c cs outer inner)
  within_only c cs outer inner h k =
      let own = numbers_named l.numbers c.whole in
      of (is_guarded l c cs own) (added (origin_over l c own outer) inner.origin (over_only c own outer h) k)
    where
      of : (b : Bool) → OnlyIf P (plus_if (origin_over l c (numbers_named l.numbers c.whole) outer) inner.origin) →
          OnlyIf P (if b then None else plus_if (origin_over l c (numbers_named l.numbers c.whole) outer) inner.origin)
      of true m = tt
      of false m = m

  joined_only : (c : Split) (cs : List Split) (outer inner : PartText) → OriginOnly outer → OriginOnly inner → OriginOnly (joined l c cs outer inner)
  joined_only c cs Whole Whole h k = tt
  joined_only c cs Whole (Run i) h k = tt
  joined_only c cs Whole Scattered h k = tt
  joined_only c cs Scattered Whole h k = tt
  joined_only c cs Scattered (Run i) h k = tt
  joined_only c cs Scattered Scattered h k = tt
  joined_only c cs (Run o) Whole h k = over_only c (numbers_named l.numbers c.whole) o h
  joined_only c cs (Run o) Scattered h k = tt
  joined_only c cs (Run o) (Run i) h k = of (int_eq o.length (pos 1))
    where
      of : (b : Bool) → OriginOnly (if b then Run (within_by l c cs o i (numbers_named l.numbers c.whole)) else Scattered)
      of true = within_only c cs o i h k
      of false = tt

  part_only : (x : List ℕ) (cs : List Split) → OriginOnly (part_of l x cs)
  part_only x [] = uncut_only x
  part_only x (c ∷ cs) = of (same_name c.whole x) (joined_only c cs (part_of l c.outer cs) (part_of l c.inner cs) (part_only c.outer cs) (part_only c.inner cs)) (part_only x cs)
    where
      of : (b : Bool) → OriginOnly (joined l c cs (part_of l c.outer cs) (part_of l c.inner cs)) → OriginOnly (part_of l x cs) →
          OriginOnly (if b then joined l c cs (part_of l c.outer cs) (part_of l c.inner cs) else part_of l x cs)
      of true h k = h
      of false h k = k

  place_only : (x : List ℕ) (cs : List Split) (p : PartText) → OriginOnly p → PlaceOnly P (dimension_by l x cs p).places
  place_only x cs Whole h = tt
  place_only x cs Scattered h = tt
  place_only x cs (Run b) h = of b.origin h
    where
      of : (o : Option Form) → OnlyIf P o → PlaceOnly P (places_by l x cs b.reach o)
      of None k = tt
      of (Some f) k = k

  pub places_only : (cs : List Split) (xs : List (List ℕ)) → AllByRecursion (PlaceOnly P) (own_places (map (dimension_of l cs) xs))
  places_only cs [] = tt
  places_only cs (x ∷ xs) = (place_only x cs (part_of l x cs) (part_only x cs), places_only cs xs)

pub places_long : (l : LayText) (cs : List Split) (xs : List (List ℕ)) → length (own_places (map (dimension_of l cs) xs)) ≡ length xs
places_long l cs [] = refl
places_long l cs (x ∷ xs) = ap suc (places_long l cs xs)
