-- The turns of a function that slides, where one of their parts can't be written.
use Rattle.std.proofs.Common.{◌≡◌, ℕ, List, [], ◌∷◌, ◌++◌, map, Option, Some, None, sym, ap, subst, ◌∙◌}
use Rattle.std.specs.Prelude.{slice_get}
use Rattle.std.specs.Option.{option_map}
use Rattle.std.proofs.lemmas.Option.{slice_get-map}
use Rattle.plan.specs.Plan.{Statement}
use Rattle.sched.specs.declared.skeleton.Step.TheVariants.{Named}
use Rattle.plan.specs.declared.stmt.Pick.TheVariants.{Min}
use Rattle.sched.specs.declared.hosts.Host.TheVariants.{Inner as Inside, Later as Anew}
use Rattle.sched.specs.declared.nest.Nest.{Nest}
use Rattle.sched.specs.Skeleton.{NestText, nest_seen}
use Rattle.sched.specs.Standing.{◌>>=◌}
use Rattle.sched.specs.declared.hosts.Inner.{Inner}
use Rattle.sched.specs.declared.hosts.Later.{Later}
use Rattle.sched.specs.Renamed.{Pairs, value_in}
use Rattle.sched.specs.Placed.{LaterText, PlacedText, OwnerText, SoFar, Made, claimed, lets, inner_seen, later_seen}
use Rattle.blocks.specs.Placed.{Nests, owner, held, arms, first_lets, first_and_later, sliding_turns}

module _ (make : Nests) (is : List PlacedText) where
  -- the steps of one that slides, one by one; where one is missing there is none
  module _ (o w : OwnerText) (l : LaterText) (all anew : NestText) (m : Pairs) where
    abbrev FourthTurns : ℕ → List Statement → List Statement → Pairs → Option (List Statement × (Pairs × SoFar)) → Made
    FourthTurns s xs bs whole r = r >>= λ z. arms make is o w all anew s whole z.1.0 z.1.1 >>= λ v. Some (xs ++ (bs ++ (z.0 ++ v.0)), v.1)

    abbrev ThirdTurns : ℕ → List Statement → Pairs → Option (List Statement × (Pairs × SoFar)) → Made
    ThirdTurns s xs first r = r >>= λ y. FourthTurns s xs y.0 y.1.0 (first_lets anew first y.1.1)

    abbrev SecondTurns : ℕ → Option (List Statement × (Pairs × SoFar)) → Made
    SecondTurns s r = r >>= λ x. ThirdTurns s x.0 x.1.0 (first_lets all m x.1.1)

    abbrev FirstTurns : SoFar → Option ℕ → Made
    FirstTurns old r = r >>= λ s. SecondTurns s (lets (Named l.new Min l.first_new ∷ []) m old)

    pub unnamed_stops : (old : SoFar) → value_in m l.symbol ≡ None → first_and_later make is o w l all anew m old ≡ None
    unnamed_stops old none = ap (FirstTurns old) none

    pub let_missing : (s : ℕ) (old : SoFar) → value_in m l.symbol ≡ Some s → lets (Named l.new Min l.first_new ∷ []) m old ≡ None
        → first_and_later make is o w l all anew m old ≡ None
    let_missing s old e none = ap (FirstTurns old) e ∙ ap (SecondTurns s) none

    pub first_lets_missing : (s : ℕ) (old one : SoFar) (xs : List Statement) (first : Pairs) → value_in m l.symbol ≡ Some s
        → lets (Named l.new Min l.first_new ∷ []) m old ≡ Some (xs, (first, one)) → first_lets all m one ≡ None → first_and_later make is o w l all anew m old ≡ None
    first_lets_missing s old one xs first e f none = ap (FirstTurns old) e ∙ (ap (SecondTurns s) f ∙ ap (ThirdTurns s xs first) none)

    pub new_lets_missing : (s : ℕ) (old one two : SoFar) (xs bs : List Statement) (first whole : Pairs) → value_in m l.symbol ≡ Some s
        → lets (Named l.new Min l.first_new ∷ []) m old ≡ Some (xs, (first, one)) → first_lets all m one ≡ Some (bs, (whole, two)) → first_lets anew first two ≡ None
        → first_and_later make is o w l all anew m old ≡ None
    new_lets_missing s old one two xs bs first whole e f g none =
        ap (FirstTurns old) e ∙ (ap (SecondTurns s) f ∙ (ap (ThirdTurns s xs first) g ∙ ap (FourthTurns s xs bs whole) none))

    pub arms_missing : (s : ℕ) (old one two three : SoFar) (xs bs cs : List Statement) (first whole names : Pairs) → value_in m l.symbol ≡ Some s
        → lets (Named l.new Min l.first_new ∷ []) m old ≡ Some (xs, (first, one)) → first_lets all m one ≡ Some (bs, (whole, two))
        → first_lets anew first two ≡ Some (cs, (names, three)) → arms make is o w all anew s whole names three ≡ None → first_and_later make is o w l all anew m old ≡ None
    arms_missing s old one two three xs bs cs first whole names e f g h none =
        ap (FirstTurns old) e ∙ (ap (SecondTurns s) f ∙ (ap (ThirdTurns s xs first) g ∙ (ap (FourthTurns s xs bs whole) h
        ∙ ap (λ (p : Made). p >>= λ v. Some (xs ++ (bs ++ (cs ++ v.0)), v.1)) none)))

  module _ (b n : ℕ) (i : Inner) (l : Later) (m : Pairs) (old : SoFar) where
    abbrev HeldTurns : List Statement → Option SoFar → Made
    HeldTurns xs r = r >>= λ q. held (inner_seen i) (later_seen l) m q >>= λ v. Some (xs, v)

    abbrev ClaimedTurns : Made → Made
    ClaimedTurns r = r >>= λ x. HeldTurns x.0 (claimed (owner (Inside n) (inner_seen i) b) 0 m x.1)

    abbrev NewTurns : NestText → Option NestText → Made
    NewTurns all r = r >>= λ new. ClaimedTurns (first_and_later make is (owner (Inside n) (inner_seen i) b) (owner (Anew n) (inner_seen i) b) (later_seen l) all new m old)

    abbrev AllTurns : Option NestText → Made
    AllTurns r = r >>= λ all. NewTurns all (slice_get (map nest_seen l.nests.items) 0)

    at_nests : (ns : List Nest) (o : Option Nest) → slice_get ns 0 ≡ o → slice_get (map nest_seen ns) 0 ≡ option_map nest_seen o
    at_nests ns o e = slice_get-map nest_seen ns 0 ∙ ap (option_map nest_seen) e

    pub nest_missing : slice_get i.nests.items 0 ≡ None → sliding_turns make is b n (inner_seen i) (later_seen l) m old ≡ None
    nest_missing none = ap AllTurns (at_nests i.nests.items None none)

    pub new_nest_missing : (all : Nest) → slice_get i.nests.items 0 ≡ Some all → slice_get l.nests.items 0 ≡ None → sliding_turns make is b n (inner_seen i) (later_seen l) m old ≡ None
    new_nest_missing all e none = ap AllTurns (at_nests i.nests.items (Some all) e) ∙ ap (NewTurns (nest_seen all)) (at_nests l.nests.items None none)

    nests_there : (all new : Nest) (r : Made) → slice_get i.nests.items 0 ≡ Some all → slice_get l.nests.items 0 ≡ Some new
        → ClaimedTurns (first_and_later make is (owner (Inside n) (inner_seen i) b) (owner (Anew n) (inner_seen i) b) (later_seen l) (nest_seen all) (nest_seen new) m old) ≡ r
        → sliding_turns make is b n (inner_seen i) (later_seen l) m old ≡ r
    nests_there all new r e f h =
        ap AllTurns (at_nests i.nests.items (Some all) e) ∙ (ap (NewTurns (nest_seen all)) (at_nests l.nests.items (Some new) f) ∙ h)

    module _ (o w : OwnerText) (all new : Nest) where
      as_owned : (r : Made) → o ≡ owner (Inside n) (inner_seen i) b → w ≡ owner (Anew n) (inner_seen i) b
          → first_and_later make is o w (later_seen l) (nest_seen all) (nest_seen new) m old ≡ r
          → first_and_later make is (owner (Inside n) (inner_seen i) b) (owner (Anew n) (inner_seen i) b) (later_seen l) (nest_seen all) (nest_seen new) m old ≡ r
      as_owned r p q h = sym (λ j. first_and_later make is (p j) (q j) (later_seen l) (nest_seen all) (nest_seen new) m old) ∙ h

      pub turns_missing : slice_get i.nests.items 0 ≡ Some all → slice_get l.nests.items 0 ≡ Some new → o ≡ owner (Inside n) (inner_seen i) b
          → w ≡ owner (Anew n) (inner_seen i) b → first_and_later make is o w (later_seen l) (nest_seen all) (nest_seen new) m old ≡ None
          → sliding_turns make is b n (inner_seen i) (later_seen l) m old ≡ None
      turns_missing e f p q none = nests_there all new None e f (ap ClaimedTurns (as_owned None p q none))

      pub claim_missing : (one : SoFar) (xs : List Statement) → slice_get i.nests.items 0 ≡ Some all → slice_get l.nests.items 0 ≡ Some new
          → o ≡ owner (Inside n) (inner_seen i) b → w ≡ owner (Anew n) (inner_seen i) b
          → first_and_later make is o w (later_seen l) (nest_seen all) (nest_seen new) m old ≡ Some (xs, one) → claimed o 0 m one ≡ None
          → sliding_turns make is b n (inner_seen i) (later_seen l) m old ≡ None
      claim_missing one xs e f p q h none =
          nests_there all new None e f (ap ClaimedTurns (as_owned (Some (xs, one)) p q h) ∙ ap (HeldTurns xs) (subst (λ (u : OwnerText). claimed u 0 m one ≡ None) p none))

      pub window_missing : (one two : SoFar) (xs : List Statement) → slice_get i.nests.items 0 ≡ Some all → slice_get l.nests.items 0 ≡ Some new
          → o ≡ owner (Inside n) (inner_seen i) b → w ≡ owner (Anew n) (inner_seen i) b
          → first_and_later make is o w (later_seen l) (nest_seen all) (nest_seen new) m old ≡ Some (xs, one) → claimed o 0 m one ≡ Some two
          → held (inner_seen i) (later_seen l) m two ≡ None → sliding_turns make is b n (inner_seen i) (later_seen l) m old ≡ None
      window_missing one two xs e f p q h c none =
          nests_there all new None e f (ap ClaimedTurns (as_owned (Some (xs, one)) p q h)
          ∙ (ap (HeldTurns xs) (subst (λ (u : OwnerText). claimed u 0 m one ≡ Some two) p c) ∙ ap (λ (r : Option SoFar). r >>= λ v. Some (xs, v)) none))
