-- What is told of a group whose lines can't be written, step by step.
-- What crates below need of it stands there: `blocks`.
use Rattle.std.proofs.Common.{◌≡◌, ℕ, ◌+◌, Bool, true, false, List, [], ◌∷◌, length, map, Some, None, Result, Ok, Err, refl, sym, ap, subst, ◌∙◌}
use Rattle.std.specs.Global.{Vec}
use Rattle.std.specs.Prelude.{if◌then◌else◌}
use Rattle.std.specs.Option.{is_some}
use Rattle.lin.specs.declared.span.Span1.{Span1}
use Rattle.plan.specs.Plan.{Statement}
use Rattle.meaning.specs.Algorithm.{Algorithm}
use Rattle.sched.specs.declared.stop.Stop.{Stop}
use Rattle.sched.specs.declared.stop.Stop.TheVariants as stop
use Rattle.sched.specs.Limited.{Gives, TellsIf}
use Rattle.sched.specs.declared.hosts.Inner.{Inner}
use Rattle.lower.specs.declared.parties.Party.{Party}
use Rattle.sched.specs.Fetches.{Entry}
use Rattle.lower.specs.Groups.{inside_at, inside_of, party_of}
use Rattle.sched.specs.Groups.{root_of}
use Rattle.blocks.specs.Blocks.{dimensions_of, claimed_region}
use Rattle.blocks.specs.Placed.{HasSome, begun, group_owner, nests_over_grid}
use Rattle.sched.specs.Placed.{Made, SoFar, inner_seen}
use Rattle.lower.specs.Planned.{is_written, is_planned, unplanned_at, name_unless, are_found, are_nested}
use Rattle.blocks.specs.Planned.{are_stored}
use Rattle.lower.proofs.Unnumbered.{nests_unnumbered}

-- ---- nests

nested_by : (inners : List Inner) (e : Entry) (r : List Span1) (one : SoFar) (o : Made) (b : Bool) → is_some o ≡ b → r ≡ claimed_region (dimensions_of e.0 e.1.region e.1.skeleton)
    → one.symbol ≡ length e.1.skeleton.grid + length e.1.skeleton.head → one.seats ≡ [] → (inners ≡ [] → are_stored e.0 e.2 0 e.1.skeleton.nests ≡ b)
    → (HasSome (map inner_seen inners) → nests_over_grid (map inner_seen inners) (group_owner e r) e.1.skeleton one ≡ o) → are_nested e (map inner_seen inners) ≡ b
nested_by [] e r one o b is over symbol seats alone mixed = alone refl
nested_by (i ∷ inners) e r one o b is over symbol seats alone mixed =
    let all = map inner_seen (i ∷ inners) in
    let k = e.1.skeleton in
    nests_unnumbered all (group_owner e (claimed_region (dimensions_of e.0 e.1.region k))) k (begun 0 0 k) one (sym symbol) refl seats
    ∙ (ap (λ (s : List Span1). is_some (nests_over_grid all (group_owner e s) k one)) (sym over) ∙ (ap is_some (mixed tt) ∙ is))

module _ (a : Algorithm) (all : List Entry) (n : ℕ) (inners : List Inner) (e : Entry) (r : List Span1) (one : SoFar) where
  abbrev Nested : Made
  Nested = nests_over_grid (map inner_seen inners) (group_owner e r) e.1.skeleton one

  written_by : (o : Made) (b : Bool) → is_some o ≡ b → are_found a e (map inner_seen inners) n 0 all ≡ true → r ≡ claimed_region (dimensions_of e.0 e.1.region e.1.skeleton)
      → one.symbol ≡ length e.1.skeleton.grid + length e.1.skeleton.head → one.seats ≡ [] → (inners ≡ [] → are_stored e.0 e.2 0 e.1.skeleton.nests ≡ b)
      → (HasSome (map inner_seen inners) → Nested ≡ o) → is_written a all n (map inner_seen inners) e ≡ b
  written_by o b is found over symbol seats alone mixed =
      ap (λ (c : Bool). if c then are_nested e (map inner_seen inners) else false) found ∙ nested_by inners e r one o b is over symbol seats alone mixed

  pub written_told : (x : List Statement × SoFar) → are_found a e (map inner_seen inners) n 0 all ≡ true → r ≡ claimed_region (dimensions_of e.0 e.1.region e.1.skeleton)
      → one.symbol ≡ length e.1.skeleton.grid + length e.1.skeleton.head → one.seats ≡ [] → (inners ≡ [] → are_stored e.0 e.2 0 e.1.skeleton.nests ≡ true)
      → (HasSome (map inner_seen inners) → Nested ≡ Some x) → is_written a all n (map inner_seen inners) e ≡ true
  written_told x found over symbol seats alone mixed = written_by (Some x) true refl found over symbol seats alone mixed

  pub unwritten_told : {X Y : Type 0} (s : Stop) (q : Result Y Stop) (seen : X → List Statement × SoFar) → q ≡ Err s → are_found a e (map inner_seen inners) n 0 all ≡ true
      → r ≡ claimed_region (dimensions_of e.0 e.1.region e.1.skeleton) → one.symbol ≡ length e.1.skeleton.grid + length e.1.skeleton.head → one.seats ≡ []
      → (inners ≡ [] → TellsIf {X = X} (Err s) (are_stored e.0 e.2 0 e.1.skeleton.nests)) → (HasSome (map inner_seen inners) → Gives {X = X} (Err s) seen Nested)
      → TellsIf q (is_written a all n (map inner_seen inners) e)
  unwritten_told stop.Memory q seen is found over symbol seats alone mixed =
      subst (λ z. TellsIf z (is_written a all n (map inner_seen inners) e)) (sym is) tt
  unwritten_told stop.Limit q seen is found over symbol seats alone mixed =
      subst (λ z. TellsIf z (is_written a all n (map inner_seen inners) e)) (sym is) (written_by None false refl found over symbol seats alone mixed)

-- ---- groups

module _ (a : Algorithm) (all : List Entry) (n : ℕ) (q : Party) where
  planned_at : (v : Vec Inner) (inners : List Inner) (b : Bool) → q.inners ≡ Ok v → inners ≡ v.items → is_planned a all n (map inner_seen inners) (root_of q.root) ≡ b
      → unplanned_at a all n (inside_at q) (party_of q) ≡ name_unless b (root_of q.root).0.subject.name
  planned_at v inners b is same told =
      ap (λ r. unplanned_at a all n (inside_of r) (party_of q)) is
      ∙ ap (λ c. name_unless c (root_of q.root).0.subject.name) (ap (λ l. is_planned a all n (map inner_seen l) (root_of q.root)) (sym same) ∙ told)

  pub planned_there : (v : Vec Inner) (inners : List Inner) → q.inners ≡ Ok v → inners ≡ v.items → is_planned a all n (map inner_seen inners) (root_of q.root) ≡ true
      → unplanned_at a all n (inside_at q) (party_of q) ≡ None
  planned_there v inners is same told = planned_at v inners true is same told

  pub unplanned_there : (v : Vec Inner) (inners : List Inner) → q.inners ≡ Ok v → inners ≡ v.items → is_planned a all n (map inner_seen inners) (root_of q.root) ≡ false
      → unplanned_at a all n (inside_at q) (party_of q) ≡ Some (root_of q.root).0.subject.name
  unplanned_there v inners is same told = planned_at v inners false is same told

  pub missing_there : (x : List ℕ) → q.inners ≡ Err x → unplanned_at a all n (inside_at q) (party_of q) ≡ Some x
  missing_there x is = ap (λ r. unplanned_at a all n (inside_of r) (party_of q)) is
