-- What is made where functions are computed inside loops has no line of some kind, where no step, store, buffer or choice of its nests makes one.
use Rattle.std.proofs.Common.{◌≡◌, ℕ, zero, suc, ◌+◌, ◌-◌, Bool, true, false, List, [], ◌∷◌, ◌++◌, length, Option, Some, None, subst}
use Rattle.std.specs.Prelude.{not, ◌&&◌, if◌then◌else◌, take, drop, slice_get}
use Rattle.std.specs.List.{AllByRecursion}
use Rattle.tree.specs.Term.{Term}
use Rattle.tree.specs.Substitution.{with_calls}
use Rattle.lin.specs.Forms.{Form}
use Rattle.plan.specs.declared.stmt.Pick.TheVariants.{Min}
use Rattle.plan.specs.declared.stmt.Places.{Places}
use Rattle.plan.specs.Plan.{Coordinate, Statement, Seq, First, Alloc, Store, block}
use Rattle.sched.specs.declared.skeleton.Step.{Step}
use Rattle.sched.specs.declared.skeleton.Step.TheVariants.{Named}
use Rattle.sched.specs.Skeleton.{NestText}
use Rattle.sched.specs.Standing.{◌>>=◌}
use Rattle.headline.proofs.Members.{got}
use Rattle.sched.specs.declared.hosts.Host.TheVariants.{Inner as Inside, Later as Anew}
use Rattle.sched.specs.declared.hosts.Spot.{Spot}
use Rattle.blocks.specs.Bodies.{own_lines}
use Rattle.sched.specs.Loading.{Loads, as_load}
use Rattle.sched.specs.Around.{names_with}
use Rattle.sched.specs.Renamed.{Pairs, value_in, step_renamed, coordinates_renamed}
use Rattle.blocks.specs.Renamed.{places_renamed}
use Rattle.sched.specs.Placed.{LaterText, PlacedText, OwnerText, SoFar, Made, with_lines, with_symbol, with_name, bound_by, around, coordinates_by}
use Rattle.blocks.specs.Placed.{Nests, nothing, both, with_loads}
use Rattle.sched.specs.Placed.{store_by, store_in, stored, claimed}
use Rattle.blocks.specs.Placed.{seated}
use Rattle.blocks.specs.Placed.{same_spot, buffer_at, buffers_at, own_buffer, function_at, functions_at, numbers_down, all_at, step_in, walk, walk_apart, nests_from, owner, all_turns}
use Rattle.sched.specs.Placed.{spot, lets}
use Rattle.blocks.specs.Placed.{let_count, held, arm, arms, first_lets, first_and_later, sliding_turns, turns, computed, over_grid, group_nests}
use Rattle.blocks.proofs.Laying.{bound, same}
use Rattle.completeness.proofs.Unlike.{Clear, ClearAll, joined_clear}

-- ---- parts of lists

all_taken : {A : Type 0} (R : A → Type 0) (k : ℕ) (xs : List A) → AllByRecursion R xs → AllByRecursion R (take k xs)
all_taken R zero xs h = tt
all_taken R (suc k) [] h = tt
all_taken R (suc k) (x ∷ xs) h = (h.0, all_taken R k xs h.1)

all_dropped : {A : Type 0} (R : A → Type 0) (k : ℕ) (xs : List A) → AllByRecursion R xs → AllByRecursion R (drop k xs)
all_dropped R zero xs h = h
all_dropped R (suc k) [] h = tt
all_dropped R (suc k) (x ∷ xs) h = all_dropped R k xs h.1

-- ---- what is asked of nests

module _ (StepIs : Step → Type 0) (AtIs : Option Form → Type 0) (PlaceIs : Places → Type 0) where
  -- of the steps and coordinates of a nest
  pub record NestIs (n : NestText) : Type 0 where
    pub steps : AllByRecursion StepIs n.steps
    pub at : AllByRecursion AtIs n.at

  -- of the turns after the first one
  pub record LaterIs (l : LaterText) : Type 0 where
    pub new : StepIs (Named l.new Min l.first_new)
    pub nests : AllByRecursion NestIs l.nests

  abbrev pub LaterIsIf : Option LaterText → Type 0
  LaterIsIf None = Unit {0}
  LaterIsIf (Some l) = LaterIs l

  -- of a function that is computed inside loops
  pub record InnerIs (i : PlacedText) : Type 0 where
    pub places : AllByRecursion PlaceIs i.places
    pub lets : AllByRecursion StepIs i.lets
    pub nests : AllByRecursion NestIs i.nests
    pub later : LaterIsIf i.later

-- ---- what is made

module _ (P : Statement → Type 0) where
  abbrev pub MakesClear : Made → Type 0
  MakesClear o = (r : List Statement × SoFar) → o ≡ Some r → ClearAll P (block r.0)

  abbrev LetsClear : Option (List Statement × (Pairs × SoFar)) → Type 0
  LetsClear o = (r : List Statement × (Pairs × SoFar)) → o ≡ Some r → ClearAll P (block r.0)

  nothing_clear : (p : SoFar) → MakesClear (nothing p)
  nothing_clear p r e = subst (λ (x : List Statement × SoFar). ClearAll P (block x.0)) (same ([], p) r e) tt

  none_clear : MakesClear None
  none_clear r e = absurd (cc e)

  if_clear : (b : Bool) (x y : Made) → MakesClear x → MakesClear y → MakesClear (if b then x else y)
  if_clear true x y h k = h
  if_clear false x y h k = k

  both_clear : (a : Made) (f : SoFar → Made) → MakesClear a → ((q : SoFar) → MakesClear (f q)) → MakesClear (both a f)
  both_clear a f h k r e =
      let b = bound a (λ x. f x.1 >>= λ y. Some (x.0 ++ y.0, y.1)) r e in
      let c = bound (f b.value.1) (λ y. Some (b.value.0 ++ y.0, y.1)) r b.comes in
      subst (λ (x : List Statement × SoFar). ClearAll P (block x.0)) (same (b.value.0 ++ c.value.0, c.value.1) r c.comes)
      (joined_clear P b.value.0 c.value.0 (h b.value b.is) (k b.value.1 c.value c.is))

  module _ (StepIs : Step → Type 0) (AtIs : Option Form → Type 0) (PlaceIs : Places → Type 0)
      (step_clear : (m : Pairs) (s t : Step) (xs : List Statement) → StepIs s → step_renamed m s ≡ Some t → ClearAll P (block xs) → ClearAll P (block (around t xs)))
      (store_clear : (ls : Loads) (xs : List (List ℕ)) (m : Pairs) (os at : List (Option Form)) (lefts : List (Option Term)) (cs : List Coordinate) (b d : ℕ) (e : Term) →
      AllByRecursion AtIs os → coordinates_renamed m os ≡ Some at → coordinates_by ls xs at lefts ≡ Some cs → P (Store b d cs e) → ⊥)
      (alloc_clear : (m : Pairs) (os ps : List Places) (b : ℕ) (f : List ℕ) → AllByRecursion PlaceIs os → places_renamed m os ≡ Some ps → P (Alloc b f ps) → ⊥)
      (first_clear : (s : ℕ) (a b : Statement) → P (First s a b) → ⊥) where
    abbrev Nest : NestText → Type 0
    Nest = NestIs StepIs AtIs PlaceIs

    abbrev Inner : PlacedText → Type 0
    Inner = InnerIs StepIs AtIs PlaceIs

    -- ---- buffers and stores

    seated_clear : (n : ℕ) (i : PlacedText) (m : Pairs) (p : SoFar) → Inner i → MakesClear (seated n i m p)
    seated_clear n i m p h r e =
        let b = bound (places_renamed m i.places)
        (λ places. Some (Alloc p.buffer i.function.subject.name places ∷ [], record p { line = p.line + 1; buffer = p.buffer + 1; seats = p.seats ++ (n, p.buffer) ∷ [] })) r e in
        subst (λ (x : List Statement × SoFar). ClearAll P (block x.0))
        (same (Alloc p.buffer i.function.subject.name b.value ∷ [], record p { line = p.line + 1; buffer = p.buffer + 1; seats = p.seats ++ (n, p.buffer) ∷ [] }) r b.comes)
        (alloc_clear m i.places b.value p.buffer i.function.subject.name h.places b.is, tt)

    one_clear : (o : OwnerText) (d : ℕ) (m : Pairs) (ls : Loads) (os at : List (Option Form)) (s : Statement) → AllByRecursion AtIs os → coordinates_renamed m os ≡ Some at →
        store_in o ls d at ≡ Some s → Clear P s
    one_clear o d m ls os at s h renamed e =
        let xs = names_with o.function.variables o.function.changes d in
        let f = bound (slice_get o.formulas d) (λ f. store_by ls o.buffer xs d f at) s e in
        let cs = bound (coordinates_by ls xs at f.value.at) (λ cs. Some (Store o.buffer d cs (with_calls (as_load ls) f.value.value))) s f.comes in
        subst (Clear P) (same (Store o.buffer d cs.value (with_calls (as_load ls) f.value.value)) s cs.comes)
        (store_clear ls xs m os at f.value.at cs.value o.buffer d (with_calls (as_load ls) f.value.value) h renamed cs.is)

    stored_clear : (o : OwnerText) (d : ℕ) (n : NestText) (m : Pairs) (p : SoFar) → Nest n → MakesClear (stored o d n m p)
    stored_clear o d n m p h r e =
        let b = bound (coordinates_renamed m n.at) (λ at. store_in o p.loads d at >>= λ s. Some (s ∷ [], with_lines 1 p)) r e in
        let c = bound (store_in o p.loads d b.value) (λ s. Some (s ∷ [], with_lines 1 p)) r b.comes in
        subst (λ (x : List Statement × SoFar). ClearAll P (block x.0)) (same (c.value ∷ [], with_lines 1 p) r c.comes)
        (one_clear o d m p.loads n.at b.value c.value h.at b.is c.is, tt)

    lets_clear : (steps : List Step) (m : Pairs) (p : SoFar) → AllByRecursion StepIs steps → LetsClear (lets steps m p)
    lets_clear [] m p h r e = subst (λ (x : List Statement × (Pairs × SoFar)). ClearAll P (block x.0)) (same ([], (m, p)) r e) tt
    lets_clear (s ∷ steps) m p h r e =
        let names = with_name (bound_by s) p.symbol m in
        let q = with_lines 1 (with_symbol (bound_by s) p) in
        let b = bound (step_renamed names s) (λ t. lets steps names q >>= λ x. Some (around t x.0, x.1)) r e in
        let c = bound (lets steps names q) (λ x. Some (around b.value x.0, x.1)) r b.comes in
        subst (λ (x : List Statement × (Pairs × SoFar)). ClearAll P (block x.0)) (same (around b.value c.value.0, c.value.1) r c.comes)
        (step_clear names s b.value c.value.0 h.0 b.is (lets_clear steps names q h.1 c.value c.is))

    -- ---- what stands at places

    module _ (is : List PlacedText) (inners : AllByRecursion Inner is) where
      found_clear : (n : ℕ) (f : PlacedText → Made) → ((i : PlacedText) → Inner i → MakesClear (f i)) → MakesClear (slice_get is n >>= f)
      found_clear n f h r e = (let b = bound (slice_get is n) f r e in h b.value (got Inner is n b.value inners b.is) r b.comes)

      module _ (make : Nests) (made : (n : ℕ) (i : PlacedText) → Inner i → (m : Pairs) (p : SoFar) → MakesClear (make n i m p)) where
        buffers_clear : (s : Spot) (m : Pairs) (ns : List ℕ) (p : SoFar) → MakesClear (buffers_at is s m ns p)
        buffers_clear s m [] p = nothing_clear p
        buffers_clear s m (n ∷ ns) p =
            both_clear (slice_get is n >>= λ i. buffer_at s m n i p) (buffers_at is s m ns)
            (found_clear n (λ i. buffer_at s m n i p)
            (λ i h. if_clear (same_spot i.store s && not (same_spot i.home s)) (seated n i m p) (nothing p) (seated_clear n i m p h) (nothing_clear p)))
            (buffers_clear s m ns)

        function_clear : (s : Spot) (m : Pairs) (n : ℕ) (i : PlacedText) (p : SoFar) → Inner i → MakesClear (function_at make s m n i p)
        function_clear s m n i p h =
            if_clear (same_spot i.home s) (both (own_buffer s m n i p) (make n i m)) (nothing p)
            (both_clear (own_buffer s m n i p) (make n i m) (if_clear (same_spot i.store s) (seated n i m p) (nothing p) (seated_clear n i m p h) (nothing_clear p)) (λ q. made n i h m q))
            (nothing_clear p)

        functions_clear : (s : Spot) (m : Pairs) (ns : List ℕ) (p : SoFar) → MakesClear (functions_at make is s m ns p)
        functions_clear s m [] p = nothing_clear p
        functions_clear s m (n ∷ ns) p =
            both_clear (slice_get is n >>= λ i. function_at make s m n i p) (functions_at make is s m ns)
            (found_clear n (λ i. function_at make s m n i p) (λ i h. function_clear s m n i p h)) (functions_clear s m ns)

        all_clear : (s : Spot) (m : Pairs) (p : SoFar) → MakesClear (all_at make is s m p)
        all_clear s m p =
            both_clear (buffers_at is s m (numbers_down (length is)) p) (functions_at make is s m (numbers_down (length is))) (buffers_clear s m (numbers_down (length is)) p)
            (functions_clear s m (numbers_down (length is)))

        -- ---- nests

        step_in_clear : (rest : Pairs → SoFar → Made) → ((names : Pairs) (q : SoFar) → MakesClear (rest names q)) → (s : Step) → StepIs s → (m : Pairs) (p : SoFar) →
            MakesClear (step_in rest s m p)
        step_in_clear rest clear s h m p r e =
            let names = with_name (bound_by s) p.symbol m in
            let q = with_lines 1 (with_symbol (bound_by s) p) in
            let b = bound (step_renamed names s) (λ t. rest names q >>= λ x. Some (around t x.0, with_lines (own_lines t - 1) x.1)) r e in
            let c = bound (rest names q) (λ x. Some (around b.value x.0, with_lines (own_lines b.value - 1) x.1)) r b.comes in
            subst (λ (x : List Statement × SoFar). ClearAll P (block x.0)) (same (around b.value c.value.0, with_lines (own_lines b.value - 1) c.value.1) r c.comes)
            (step_clear names s b.value c.value.0 h b.is (clear names q c.value c.is))

        walk_clear : (o : OwnerText) (d : ℕ) (n : NestText) → Nest n → (depth : ℕ) (steps : List Step) → AllByRecursion StepIs steps → (m : Pairs) (p : SoFar) →
            MakesClear (walk make is o d n depth steps m p)
        walk_clear o d n nest depth [] h m p = both_clear (all_at make is (spot o.host d depth) m p) (stored o d n m) (all_clear (spot o.host d depth) m p) (λ q. stored_clear o d n m q nest)
        walk_clear o d n nest depth (s ∷ steps) h m p =
            both_clear (all_at make is (spot o.host d depth) m p) (step_in (λ names q. walk make is o d n (depth + 1) steps names q) s m) (all_clear (spot o.host d depth) m p)
            (λ q. step_in_clear (λ names q. walk make is o d n (depth + 1) steps names q) (λ names q. walk_clear o d n nest (depth + 1) steps h.1 names q) s h.0 m q)

        apart_clear : (o : OwnerText) (d : ℕ) (n : NestText) → Nest n → (depth : ℕ) (steps : List Step) → AllByRecursion StepIs steps → (m : Pairs) (p : SoFar) →
            MakesClear (walk_apart make is o d n depth steps m p)
        apart_clear o d n nest depth steps h m p r e =
            let b = bound (walk make is o d n depth steps m p) (λ x. Some (x.0, with_loads p.loads x.1)) r e in
            subst (λ (x : List Statement × SoFar). ClearAll P (block x.0)) (same (b.value.0, with_loads p.loads b.value.1) r b.comes) (walk_clear o d n nest depth steps h m p b.value b.is)

        nests_clear : (o : OwnerText) (d : ℕ) (ns : List NestText) → AllByRecursion Nest ns → (m : Pairs) (p : SoFar) → MakesClear (nests_from make is o d ns m p)
        nests_clear o d [] h m p = nothing_clear p
        nests_clear o d (n ∷ ns) h m p =
            both_clear (walk_apart make is o d n 0 n.steps m p) (λ q. claimed o d m q >>= nests_from make is o (d + 1) ns m) (apart_clear o d n h.0 0 n.steps h.0.steps m p)
            (λ q r e. let b = bound (claimed o d m q) (nests_from make is o (d + 1) ns m) r e in nests_clear o (d + 1) ns h.1 m b.value r b.comes)

        -- ---- functions inside

        all_turns_clear : (b n : ℕ) (i : PlacedText) → Inner i → (m : Pairs) (p : SoFar) → MakesClear (all_turns make is b n i m p)
        all_turns_clear b n i h m p r e =
            let x = bound (lets i.lets m p) (λ x. nests_from make is (owner (Inside n) i b) 0 i.nests x.1.0 x.1.1 >>= λ y. Some (x.0 ++ y.0, y.1)) r e in
            let y = bound (nests_from make is (owner (Inside n) i b) 0 i.nests x.value.1.0 x.value.1.1) (λ y. Some (x.value.0 ++ y.0, y.1)) r x.comes in
            subst (λ (x : List Statement × SoFar). ClearAll P (block x.0)) (same (x.value.0 ++ y.value.0, y.value.1) r y.comes)
            (joined_clear P x.value.0 y.value.0 (lets_clear i.lets m p h.lets x.value x.is) (nests_clear (owner (Inside n) i b) 0 i.nests h.nests x.value.1.0 x.value.1.1 y.value y.is))

        arm_clear : (o : OwnerText) (n : NestText) → Nest n → (m : Pairs) (p : SoFar) → MakesClear (arm make is o n m p)
        arm_clear o n h m p = apart_clear o 0 n h (let_count n.steps) (drop (let_count n.steps) n.steps) (all_dropped StepIs (let_count n.steps) n.steps h.steps) m (with_lines 1 p)

        arms_clear : (o w : OwnerText) (all new : NestText) → Nest all → Nest new → (s : ℕ) (whole anew : Pairs) (p : SoFar) → MakesClear (arms make is o w all new s whole anew p)
        arms_clear o w all new h k s whole anew p r e =
            let x = bound (arm make is o all whole p) (λ x. arm make is w new anew x.1 >>= λ y. Some (First s (Seq (block x.0)) (Seq (block y.0)) ∷ [], with_lines 1 y.1)) r e in
            let y = bound (arm make is w new anew x.value.1) (λ y. Some (First s (Seq (block x.value.0)) (Seq (block y.0)) ∷ [], with_lines 1 y.1)) r x.comes in
            subst (λ (x : List Statement × SoFar). ClearAll P (block x.0)) (same (First s (Seq (block x.value.0)) (Seq (block y.value.0)) ∷ [], with_lines 1 y.value.1) r y.comes)
            ((first_clear s (Seq (block x.value.0)) (Seq (block y.value.0)), arm_clear o all h whole p x.value x.is, arm_clear w new k anew x.value.1 y.value y.is), tt)

        first_lets_clear : (n : NestText) → Nest n → (m : Pairs) (p : SoFar) → LetsClear (first_lets n m p)
        first_lets_clear n h m p = lets_clear (take (let_count n.steps) n.steps) m p (all_taken StepIs (let_count n.steps) n.steps h.steps)

        later_clear : (o w : OwnerText) (l : LaterText) → LaterIs StepIs AtIs PlaceIs l → (all new : NestText) → Nest all → Nest new → (m : Pairs) (p : SoFar) →
            MakesClear (first_and_later make is o w l all new m p)
        later_clear o w l later all new h k m p r e =
            let s = bound (value_in m l.symbol)
            (λ s. lets (Named l.new Min l.first_new ∷ []) m p >>= λ x. first_lets all m x.1.1 >>= λ y. first_lets new x.1.0 y.1.1 >>= λ z. arms make is o w all new s y.1.0 z.1.0 z.1.1 >>= λ v.
            Some (x.0 ++ (y.0 ++ (z.0 ++ v.0)), v.1)) r e in
            let x = bound (lets (Named l.new Min l.first_new ∷ []) m p)
            (λ x. first_lets all m x.1.1 >>= λ y. first_lets new x.1.0 y.1.1 >>= λ z. arms make is o w all new s.value y.1.0 z.1.0 z.1.1 >>= λ v. Some (x.0 ++ (y.0 ++ (z.0 ++ v.0)), v.1)) r s.comes in
            let y = bound (first_lets all m x.value.1.1)
            (λ y. first_lets new x.value.1.0 y.1.1 >>= λ z. arms make is o w all new s.value y.1.0 z.1.0 z.1.1 >>= λ v. Some (x.value.0 ++ (y.0 ++ (z.0 ++ v.0)), v.1)) r x.comes in
            let z = bound (first_lets new x.value.1.0 y.value.1.1)
            (λ z. arms make is o w all new s.value y.value.1.0 z.1.0 z.1.1 >>= λ v. Some (x.value.0 ++ (y.value.0 ++ (z.0 ++ v.0)), v.1)) r y.comes in
            let v = bound (arms make is o w all new s.value y.value.1.0 z.value.1.0 z.value.1.1) (λ v. Some (x.value.0 ++ (y.value.0 ++ (z.value.0 ++ v.0)), v.1)) r z.comes in
            let first = lets_clear (Named l.new Min l.first_new ∷ []) m p (later.new, tt) x.value x.is in
            let second = first_lets_clear all h m x.value.1.1 y.value y.is in
            let third = first_lets_clear new k x.value.1.0 y.value.1.1 z.value z.is in
            let last = arms_clear o w all new h k s.value y.value.1.0 z.value.1.0 z.value.1.1 v.value v.is in
            subst (λ (x : List Statement × SoFar). ClearAll P (block x.0)) (same (x.value.0 ++ (y.value.0 ++ (z.value.0 ++ v.value.0)), v.value.1) r v.comes)
            (joined_clear P x.value.0 (y.value.0 ++ (z.value.0 ++ v.value.0)) first
            (joined_clear P y.value.0 (z.value.0 ++ v.value.0) second (joined_clear P z.value.0 v.value.0 third last)))

        sliding_clear : (b n : ℕ) (i : PlacedText) → Inner i → (l : LaterText) → LaterIs StepIs AtIs PlaceIs l → (m : Pairs) (p : SoFar) → MakesClear (sliding_turns make is b n i l m p)
        sliding_clear b n i h l later m p r e =
            let o = owner (Inside n) i b in
            let w = owner (Anew n) i b in
            let all = bound (slice_get i.nests 0)
            (λ all. slice_get l.nests 0 >>= λ new. first_and_later make is o w l all new m p >>= λ x. claimed o 0 m x.1 >>= λ q. held i l m q >>= λ r. Some (x.0, r)) r e in
            let new = bound (slice_get l.nests 0)
            (λ new. first_and_later make is o w l all.value new m p >>= λ x. claimed o 0 m x.1 >>= λ q. held i l m q >>= λ r. Some (x.0, r)) r all.comes in
            let x = bound (first_and_later make is o w l all.value new.value m p) (λ x. claimed o 0 m x.1 >>= λ q. held i l m q >>= λ r. Some (x.0, r)) r new.comes in
            let q = bound (claimed o 0 m x.value.1) (λ q. held i l m q >>= λ r. Some (x.value.0, r)) r x.comes in
            let k = bound (held i l m q.value) (λ r. Some (x.value.0, r)) r q.comes in
            subst (λ (x : List Statement × SoFar). ClearAll P (block x.0)) (same (x.value.0, k.value) r k.comes)
            (later_clear o w l later all.value new.value (got Nest i.nests 0 all.value h.nests all.is) (got Nest l.nests 0 new.value later.nests new.is) m p x.value x.is)

        turns_clear : (b n : ℕ) (i : PlacedText) → Inner i → (o : Option LaterText) → LaterIsIf StepIs AtIs PlaceIs o → (m : Pairs) (p : SoFar) → MakesClear (turns make is b n i o m p)
        turns_clear b n i h None k m p = all_turns_clear b n i h m p
        turns_clear b n i h (Some l) k m p = sliding_clear b n i h l k m p

      computed_clear : (deep n : ℕ) (i : PlacedText) → Inner i → (m : Pairs) (p : SoFar) → MakesClear (computed deep is n i m p)
      computed_clear zero n i h m p = none_clear
      computed_clear (suc deep) n i h m p =
          λ r e. let b = bound (value_in p.seats n) (λ b. turns (computed deep is) is b n i i.later m p) r e in
          turns_clear (computed deep is) (computed_clear deep) b.value n i h i.later h.later m p r b.comes

      -- all nests of a group's own function, with those of what is computed inside them
      pub group_clear : (deep : ℕ) (o : OwnerText) (ns : List NestText) → AllByRecursion Nest ns → (m : Pairs) (p : SoFar) → MakesClear (group_nests deep is o ns m p)
      group_clear deep o ns h m p =
          both_clear (all_at (computed deep is) is over_grid m p) (nests_from (computed deep is) is o 0 ns m) (all_clear (computed deep is) (computed_clear deep) over_grid m p)
          (λ q. nests_clear (computed deep is) (computed_clear deep) o 0 ns h m q)
