-- The nests of each function that is computed inside loops, and their lets, have forms within the limits, where those of its region are.
use Rattle.std.proofs.Common.{◌≡◌, ℕ, ◌+◌, ◌-◌, ◌≤◌, Bool, true, false, List, [], ◌∷◌, ◌++◌, length, Option, Some, None, sym, subst}
use Rattle.std.specs.Prelude.{pos, ◌==◌, if◌then◌else◌}
use Rattle.std.specs.List.{AllByRecursion}
use Rattle.lin.specs.Forms.{Form, number}
use Rattle.lin.specs.declared.scope.Binding.{Binding}
use Rattle.lin.specs.declared.span.Span1.{Span1}
use Rattle.bounds.proofs.ListSound.{all-append}
use Rattle.meaning.specs.Algorithm.{Algorithm}
use Rattle.plan.specs.declared.stmt.Places.{Places}
use Rattle.sched.specs.Skeleton.{NestText}
use Rattle.sched.specs.Stored.{FormulaText, StoredText}
use Rattle.regions.specs.Regions.{bodies_from}
use Rattle.blocks.specs.Parted.{kept_region}
use Rattle.lower.specs.Parted.{nests_over}
use Rattle.regions.specs.Slid.{TrackText, offset, past, add_new, others_from, spare_place, from_symbol, new_region}
use Rattle.lower.specs.Slid.{held_along, sliding_at, HasLater, IsLater, HoldsBy, Holds}
use Rattle.sched.specs.Fetches.{Entry}
use Rattle.sched.specs.Placed.{LaterText, PlacedText}
use Rattle.regions.specs.Demanded.{scope_at}
use Rattle.lower.specs.Computed.{IsComputed}
use Rattle.blocks.proofs.Laying.{bound, same}
use Rattle.completeness.proofs.Limited.{Limited, AreLimited, LimitedIf, IsBodySmall, alone_limited, combined_limited}
use Rattle.completeness.proofs.Bounding.{SpanLimited}
use Rattle.completeness.proofs.LoopedWalk.{NestIs, LaterIs, LaterIsIf, InnerIs}
use Rattle.completeness.proofs.LoopedLimited.{StepFits, StepsFit, NestFits, AreSpans, over_fit}
use Rattle.completeness.proofs.LoopedRounded.{lain_fits}

-- of places nothing is asked
abbrev pub AnyPlace : Places → Type 0
AnyPlace p = Unit {0}

pub any_places : (ps : List Places) → AllByRecursion AnyPlace ps
any_places [] = tt
any_places (p ∷ ps) = (tt, any_places ps)

pub nests_are : (ns : List NestText) → AllByRecursion NestFits ns → AllByRecursion (NestIs StepFits LimitedIf AnyPlace) ns
nests_are [] h = tt
nests_are (n ∷ ns) h = (record { steps = h.0.steps; at = h.0.at }, nests_are ns h.1)

-- ---- what is new

others_limited : (spare p : ℕ) (fs : List Form) → AreLimited fs → AreLimited (others_from spare p fs)
others_limited spare p [] h = tt
others_limited spare p (f ∷ fs) h = of (p == spare) (others_limited spare (p + 1) fs h.1)
  where
    of : (b : Bool) → AreLimited (others_from spare (p + 1) fs) → AreLimited (if b then others_from spare (p + 1) fs else f ∷ others_from spare (p + 1) fs)
    of true k = k
    of false k = (h.0, k)

module _ (scope : List Binding) where
  from_limited : (x : Span1) → SpanLimited x → SpanLimited (from_symbol scope x)
  from_limited x h = ((alone_limited (length scope), others_limited (spare_place scope x.lower) 0 x.lower h.0), h.1)

  new_limited : (d p : ℕ) (r : List Span1) → AreSpans r → AreSpans (new_region scope d p r)
  new_limited d p [] h = tt
  new_limited d p (x ∷ xs) h = (of (p == d), new_limited d (p + 1) xs h.1)
    where
      of : (b : Bool) → SpanLimited (if b then from_symbol scope x else x)
      of true = from_limited x h.0
      of false = h.0

first_limited : (s : ℕ) (fs before gs : List Form) → AreLimited before → add_new s fs before ≡ Some gs → AreLimited gs
first_limited s [] before gs h e = subst AreLimited (same before gs e) h
first_limited s (f ∷ fs) before gs h e =
    let b = bound (past s f) (λ g. add_new s fs (before ++ g ∷ [])) gs e in
    first_limited s fs (before ++ b.value ∷ []) gs (all-append Limited before (b.value ∷ []) h (combined_limited (number (offset s f)) (pos 1) f b.value b.is, tt)) b.comes

-- ---- a function inside

module _ (g : StoredText) (few : AllByRecursion (λ c. c.factor ≤ 1024) g.placed.cuts) (fs : List FormulaText) (small : AllByRecursion IsBodySmall (bodies_from g.changes 0
    g.subject.reductions fs)) where
  later_is : (kept : Option (List Span1)) (x : TrackText × ℕ) (scope : List Binding) (h : List Span1) (l : LaterText) → AreSpans h → IsLater g fs kept x scope h l →
      LaterIs StepFits LimitedIf AnyPlace l
  later_is kept x scope h l limits is =
      let k = bound kept (λ kept. nests_over g fs l.scope (new_region scope x.1 0 h) kept) l.nests is.nested in
      record {
        new = first_limited x.0.symbol is.span.upper [] l.first_new tt is.first_new;
        nests = nests_are l.nests (over_fit g few l.scope (new_region scope x.1 0 h) (new_limited scope
            x.1 0 h limits) fs small k.value l.nests k.comes);
      }

  has_later : (kept : Option (List Span1)) (x : TrackText × ℕ) (scope : List Binding) (h : List Span1) (o : Option LaterText) → AreSpans h → HasLater g fs kept x scope h o →
      LaterIsIf StepFits LimitedIf AnyPlace o
  has_later kept x scope h None limits has = tt
  has_later kept x scope h (Some l) limits has = later_is kept x scope h l limits has

  no_later : (o : Option LaterText) → o ≡ None → LaterIsIf StepFits LimitedIf AnyPlace o
  no_later None e = tt
  no_later (Some l) e = absurd (cc e)

  holds_by : (es : List Entry) (n : ℕ) (x : TrackText × ℕ) (scope : List Binding) (r : List Span1) (h : Option (List Span1)) (held : List Span1) (o : Option LaterText) → AreSpans held →
      HoldsBy g fs n x scope r h held o → LaterIsIf StepFits LimitedIf AnyPlace o
  holds_by es n x scope r None held o limits is = no_later o is.none
  holds_by es n x scope r (Some h) held o limits is = has_later (kept_region n scope h) x scope h o (subst AreSpans is.is limits) is.turns

  holds : (es : List Entry) (n : ℕ) (scope : List Binding) (r : List Span1) (x : Option (TrackText × ℕ)) (held : List Span1) (o : Option LaterText) → AreSpans held →
      Holds es g fs n scope r x held o → LaterIsIf StepFits LimitedIf AnyPlace o
  holds es n scope r None held o limits is = no_later o is.none
  holds es n scope r (Some x) held o limits is = holds_by es n x scope r (held_along es g fs scope r x) held o limits is

pub inner_is : (a : Algorithm) (e : Entry) (es : List Entry) (is : List PlacedText) (c : Entry) (i : PlacedText) → AllByRecursion (λ c. c.factor ≤ 1024) c.0.placed.cuts →
    AllByRecursion IsBodySmall (bodies_from c.0.changes 0 c.0.subject.reductions c.2) → AllByRecursion SpanLimited i.region → IsComputed a e es is c i →
    InnerIs StepFits LimitedIf AnyPlace i
inner_is a e es is c i few small limits h =
    let lain = h.lain in
    let fits = lain_fits c.0 few (scope_at e is i.home) i.region limits c.2 small a (kept_region (length (scope_at e is i.store)) (scope_at e is i.home) i.region) lain.lain lain.laid in
    record {
      places = any_places i.places;
      lets = subst StepsFit (sym lain.lets) fits.lets;
      nests = subst (AllByRecursion (NestIs StepFits LimitedIf AnyPlace)) (sym lain.nests) (nests_are lain.lain.nests fits.nests);
      later = holds c.0 few c.2 small es (length (scope_at e is i.store)) (scope_at e is i.home) h.region (sliding_at e is c.0 i.home i.store h.region) i.region i.later limits h.holds;
    }
