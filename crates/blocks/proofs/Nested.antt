-- The nests of a group in whose loops functions are computed, part by part.
use Rattle.std.proofs.Common.{◌≡◌, ◌⊎◌, inl, inr, ℕ, zero, suc, ◌+◌, ◌-◌, ◌≤◌, ◌<◌, Bool, true, false, List, [], ◌∷◌, ◌++◌, length, map, Option, Some, None, Err, refl, sym, ap, subst}
use Rattle.std.proofs.Common.{◌∙◌, arith}
use Rattle.std.specs.Prelude.{slice_get, string_bytes, if◌then◌else◌}
use Rattle.std.specs.Option.{option_map}
use Rattle.std.proofs.lemmas.Option.{slice_get-map}
use Rattle.std.proofs.lemmas.List.{map-append, length-map}
use Rattle.tree.specs.Term.{Term, term_of}
use Rattle.tree.specs.Substitution.{with_calls}
use Rattle.lin.specs.Forms.{Form}
use Rattle.lin.specs.declared.span.Span1.{Span1}
use Rattle.plan.specs.declared.stmt.Stmt.{Stmt}
use Rattle.plan.specs.declared.stmt.Places.{Places}
use Rattle.plan.specs.declared.stmt.Coordinate.{Coordinate as CodeCoordinate}
use Rattle.plan.specs.declared.certificate.cert.Claim.{Claim as CodeClaim}
use Rattle.plan.specs.declared.certificate.cert.Window.{Window}
use Rattle.plan.specs.Certificate.Certificate.{claim_of}
use Rattle.plan.specs.Plan.{Index, At, Found, Coordinate, Statement, Seq, First, Alloc, Store, block}
use Rattle.plan.specs.View.{coordinate_of, statement_of}
use Rattle.plan.specs.Lists.{list_statements}
use Rattle.sched.specs.declared.skeleton.Step.{Step}
use Rattle.sched.specs.declared.skeleton.Step.TheVariants.{Turns, Named, Tested}
use Rattle.plan.specs.declared.stmt.Pick.TheVariants.{Min}
use Rattle.sched.specs.declared.hosts.Host.TheVariants.{Inner as Inside, Later as Anew}
use Rattle.sched.specs.declared.nest.Nest.{Nest}
use Rattle.sched.specs.Skeleton.{NestText, SkeletonText, nest_seen}
use Rattle.sched.specs.Standing.{◌>>=◌}
use Rattle.sched.specs.declared.hosts.Spot.{Spot}
use Rattle.sched.specs.declared.hosts.Inner.{Inner}
use Rattle.sched.specs.declared.hosts.Later.{Later}
use Rattle.blocks.specs.declared.loading.Load.{Load}
use Rattle.sched.specs.declared.definitions.Formula.{Formula}
use Rattle.blocks.specs.declared.group.Body.{Body}
use Rattle.blocks.specs.declared.renaming.Renaming.{Renaming}
use Rattle.blocks.specs.declared.parts.Seat.{Seat}
use Rattle.sched.specs.Stored.{formula_of}
use Rattle.sched.specs.declared.stop.Stop.{Stop}
use Rattle.sched.specs.declared.stop.Stop.TheVariants as stop
use Rattle.sched.specs.Limited.{Gives, TellsIf}
use Rattle.blocks.specs.Planned.{has_index, have_indices}
use Rattle.sched.specs.Loading.{Loads, as_load}
use Rattle.blocks.specs.Loading.{load_of}
use Rattle.sched.specs.Around.{names_with}
use Rattle.sched.specs.Bodies.{first_left, other_lefts}
use Rattle.blocks.specs.Bodies.{own_lines, IsIndex, AreCoordinates}
use Rattle.sched.specs.Renamed.{Pairs, value_in, region_renamed, span_renamed, step_renamed, coordinates_renamed}
use Rattle.blocks.specs.Renamed.{own_pairs, pair_of, places_renamed}
use Rattle.sched.specs.Placed.{LaterText, PlacedText, OwnerText, SoFar, Made, with_lines, with_symbol, with_name, bound_by, around, index_by, coordinates_by, store_by, store_in, stored}
use Rattle.sched.specs.Placed.{with_claim, claimed, spot, lets, inner_seen, later_seen}
use Rattle.blocks.specs.Placed.{nothing, both, with_loads, seated, let_count, same_spot, buffer_at, buffers_at, Nests, own_buffer, function_at, functions_at, numbers_down, all_at}
use Rattle.blocks.specs.Placed.{step_in, walk, walk_apart, nests_from, owner, all_turns, held, fold_of, arm, arms, first_lets, first_and_later, sliding_turns, turns, computed, over_grid}
use Rattle.blocks.specs.Placed.{group_nests, names_over, nests_over_grid, seat_of, so_far}
use Rattle.blocks.proofs.Renames.{bound}

-- ---- lists

pub name_behind : (names known : List Renaming) (r : Renaming) → known ≡ names ++ r ∷ [] → map pair_of known ≡ map pair_of names ++ (r.symbol, r.name) ∷ []
name_behind names known r e = ap (map pair_of) e ∙ map-append pair_of names (r ∷ [])

pub no_numbers : (n : ℕ) → n < 1 → numbers_down n ≡ []
no_numbers zero h = refl
no_numbers (suc n) h = absurd (omega (arith, h))

one_number : (n last : ℕ) → n ≡ last + 1 → last ∷ numbers_down last ≡ numbers_down n
one_number n last e =
    let next : n ≡ suc last = omega (arith, e) in
    sym (ap numbers_down next)

all_statements : (xs ys zs : List Stmt) → zs ≡ xs ++ ys → list_statements zs ≡ list_statements xs ++ list_statements ys
all_statements xs ys zs e = ap list_statements e ∙ map-append statement_of xs ys

joined : (a : Made) (f : SoFar → Made) (xs ys : List Statement) (one new : SoFar) → a ≡ Some (xs, one) → f one ≡ Some (ys, new) → both a f ≡ Some (xs ++ ys, new)
joined a f xs ys one new e h =
    bound a (λ x. f x.1 >>= λ y. Some (x.0 ++ y.0, y.1)) (xs, one) (Some (xs ++ ys, new)) e (bound (f one) (λ y. Some (xs ++ y.0, y.1)) (ys, new) (Some (xs ++ ys, new)) h refl)

-- the same of statements as memory keeps them
both_made : (a : Made) (f : SoFar → Made) (xs ys zs : List Stmt) (one new : SoFar) → a ≡ Some (list_statements xs, one) → f one ≡ Some (list_statements ys, new) → zs ≡ xs ++ ys
    → both a f ≡ Some (list_statements zs, new)
both_made a f xs ys zs one new e h z = joined a f (list_statements xs) (list_statements ys) one new e h ∙ ap (λ l. Some (l, new)) (sym (all_statements xs ys zs z))

none_first : (a : Made) (f : SoFar → Made) → a ≡ None → both a f ≡ None
none_first a f e = ap (λ (p : Made). both p f) e

none_then : (a : Made) (f : SoFar → Made) (xs : List Statement) (one : SoFar) → a ≡ Some (xs, one) → f one ≡ None → both a f ≡ None
none_then a f xs one e h = bound a (λ x. f x.1 >>= λ y. Some (x.0 ++ y.0, y.1)) (xs, one) None e (ap (λ (p : Made). p >>= λ y. Some (xs ++ y.0, y.1)) h)

found : (inners : List Inner) (n : ℕ) (i : Inner) (g : PlacedText → Made) (r : Made) → slice_get inners n ≡ Some i → g (inner_seen i) ≡ r → (slice_get (map inner_seen inners) n >>= g) ≡ r
found inners n i g r e h = bound (slice_get (map inner_seen inners) n) g (inner_seen i) r (slice_get-map inner_seen inners n ∙ ap (option_map inner_seen) e) h

-- ---- statements

index_is : (ls : Loads) (o : Option Form) (a : Option Term) (i : Index) → IsIndex ls o a i → index_by ls o a ≡ Some i
index_is ls (Some f) a (At g) h = ap (λ k. Some (At k)) (sym h)
index_is ls (Some f) a (Found e) h = absurd h
index_is ls None None (At g) h = absurd h
index_is ls None (Some a) (At g) h = absurd h
index_is ls None None (Found e) h = absurd h
index_is ls None (Some a) (Found e) h = ap (λ k. Some (Found k)) (sym h)

coordinates_are : (ls : Loads) (xs : List (List ℕ)) (os : List (Option Form)) (lefts : List (Option Term)) (cs : List Coordinate) → AreCoordinates ls xs os lefts cs
    → coordinates_by ls xs os lefts ≡ Some cs
coordinates_are ls xs [] lefts [] h = refl
coordinates_are ls xs [] lefts (c ∷ cs) h = absurd h
coordinates_are ls [] (o ∷ os) lefts cs h = absurd h
coordinates_are ls (x ∷ xs) (o ∷ os) lefts [] h = absurd h
coordinates_are ls (x ∷ xs) (o ∷ os) lefts (c ∷ cs) h =
    bound (index_by ls o (first_left lefts)) (λ i. coordinates_by ls xs os (other_lefts lefts) >>= λ rest. Some (record { variable = x; index = i } ∷ rest)) c.index (Some (c ∷ cs))
    (index_is ls o (first_left lefts) c.index h.1)
    (bound (coordinates_by ls xs os (other_lefts lefts)) (λ rest. Some (record { variable = x; index = c.index } ∷ rest)) cs (Some (c ∷ cs)) (coordinates_are ls xs os (other_lefts lefts) cs h.2)
    (ap (λ (v : List ℕ). Some (record { variable = v; index = c.index } ∷ cs)) (sym h.0)))

pub store_made : (o : OwnerText) (ls : Loads) (d : ℕ) (fs : List Formula) (f : Formula) (at : List (Option Form)) (xs : List (List ℕ)) (cs : List CodeCoordinate) (e : Term)
    → o.formulas ≡ map formula_of fs → slice_get fs d ≡ Some f → xs ≡ names_with o.function.variables o.function.changes d
    → AreCoordinates ls xs at (map (option_map term_of) f.at.items) (map coordinate_of cs) → e ≡ with_calls (as_load ls) (term_of f.value)
    → store_in o ls d at ≡ Some (Store o.buffer d (map coordinate_of cs) e)
store_made o ls d fs f at xs cs e formulas is names are value =
    let place : slice_get o.formulas d ≡ Some (formula_of f) = ap (λ l. slice_get l d) formulas ∙ (slice_get-map formula_of fs d ∙ ap (option_map formula_of) is) in
    let ys = names_with o.function.variables o.function.changes d in
    let by_names : AreCoordinates ls ys at (map (option_map term_of) f.at.items) (map coordinate_of cs) =
    subst (λ (zs : List (List ℕ)). AreCoordinates ls zs at (map (option_map term_of) f.at.items) (map coordinate_of cs)) names are in
    let store = Store o.buffer d (map coordinate_of cs) in
    bound (slice_get o.formulas d) (λ g. store_by ls o.buffer ys d g at) (formula_of f) (Some (store e)) place
    (bound (coordinates_by ls ys at (map (option_map term_of) f.at.items)) (λ c. Some (Store o.buffer d c (with_calls (as_load ls) (term_of f.value)))) (map coordinate_of cs)
    (Some (store e)) (coordinates_are ls ys at (map (option_map term_of) f.at.items) (map coordinate_of cs) by_names) (ap (λ (t : Term). Some (store t)) (sym value)))

-- there is no definition of this number
pub store_unknown : (o : OwnerText) (ls : Loads) (d : ℕ) (fs : List Formula) (at : List (Option Form)) → o.formulas ≡ map formula_of fs → slice_get fs d ≡ None → store_in o ls d at ≡ None
store_unknown o ls d fs at formulas none =
    ap (λ r. r >>= λ f. store_by ls o.buffer (names_with o.function.variables o.function.changes d) d f at)
    (ap (λ l. slice_get l d) formulas ∙ (slice_get-map formula_of fs d ∙ ap (option_map formula_of) none))

coordinates_none : (ls : Loads) (xs : List (List ℕ)) (os : List (Option Form)) (lefts : List (Option Term)) → have_indices xs os lefts ≡ false → coordinates_by ls xs os lefts ≡ None
coordinates_none ls xs [] lefts h = absurd cc
coordinates_none ls [] (o ∷ os) lefts h = refl
coordinates_none ls (x ∷ xs) (o ∷ os) lefts h = next o (first_left lefts) (coordinates_none ls xs os (other_lefts lefts)) h where
  next : (o : Option Form) (i : Option Term) → (have_indices xs os (other_lefts lefts) ≡ false → coordinates_by ls xs os (other_lefts lefts) ≡ None)
      → (if has_index o i then have_indices xs os (other_lefts lefts) else false) ≡ false
      → (index_by ls o i >>= λ k. coordinates_by ls xs os (other_lefts lefts) >>= λ cs. Some (record { variable = x; index = k } ∷ cs)) ≡ None
  next (Some f) i rest none = ap (λ r. r >>= λ cs. Some (record { variable = x; index = At f } ∷ cs)) (rest none)
  next None (Some a) rest none = ap (λ r. r >>= λ cs. Some (record { variable = x; index = Found (with_calls (as_load ls) a) } ∷ cs)) (rest none)
  next None None rest none = refl

-- a coordinate has no index
pub store_unindexed : {Y : Type 0} (X : Type 0) (e : Stop) (seen : Y → Statement) (o : OwnerText) (ls : Loads) (d : ℕ) (fs : List Formula) (f : Formula) (at : List (Option Form)) (xs : List (List ℕ))
    → o.formulas ≡ map formula_of fs → slice_get fs d ≡ Some f → xs ≡ names_with o.function.variables o.function.changes d
    → TellsIf {X = X} (Err e) (have_indices xs at (map (option_map term_of) f.at.items)) → Gives (Err e) seen (store_in o ls d at)
store_unindexed X stop.Memory seen o ls d fs f at xs formulas is names told = tt
store_unindexed X stop.Limit seen o ls d fs f at xs formulas is names told =
    let place : slice_get o.formulas d ≡ Some (formula_of f) = ap (λ l. slice_get l d) formulas ∙ (slice_get-map formula_of fs d ∙ ap (option_map formula_of) is) in
    let ys = names_with o.function.variables o.function.changes d in
    let lefts = map (option_map term_of) f.at.items in
    bound (slice_get o.formulas d) (λ g. store_by ls o.buffer ys d g at) (formula_of f) None place
    (ap (λ r. r >>= λ c. Some (Store o.buffer d c (with_calls (as_load ls) (term_of f.value))))
    (coordinates_none ls ys at lefts (subst (λ zs. have_indices zs at lefts ≡ false) names told)))

pub stored_made : (o : OwnerText) (d : ℕ) (n : NestText) (m : Pairs) (old new : SoFar) (at : List (Option Form)) (v : List Stmt) (s : Stmt) → coordinates_renamed m n.at ≡ Some at
    → store_in o old.loads d at ≡ Some (statement_of s) → new ≡ with_lines 1 old → v ≡ s ∷ [] → stored o d n m old ≡ Some (list_statements v, new)
stored_made o d n m old new at v s renamed store lined alone =
    let end : Some (statement_of s ∷ [], with_lines 1 old) ≡ Some (list_statements v, new) = λ i. Some (ap list_statements (sym alone) i, sym lined i) in
    bound (coordinates_renamed m n.at) (λ a. store_in o old.loads d a >>= λ t. Some (t ∷ [], with_lines 1 old)) at (Some (list_statements v, new)) renamed
    (bound (store_in o old.loads d at) (λ t. Some (t ∷ [], with_lines 1 old)) (statement_of s) (Some (list_statements v, new)) store end)

pub claim_made : (o : OwnerText) (d : ℕ) (m : Pairs) (r : List Span1) (old new : Body) (claim : CodeClaim) (load : Load) → region_renamed m o.claimed ≡ Some r
    → new.claims.items ≡ old.claims.items ++ claim ∷ [] → claim.line ≡ old.line - 1 → claim.buffer ≡ o.buffer → string_bytes claim.function ≡ o.function.subject.name
    → claim.definition ≡ d → claim.region ≡ r → new.next_claim ≡ old.next_claim + 1 → new.loads.items ≡ old.loads.items ++ load ∷ []
    → load.function.now ≡ o.function.subject.name → load.claim ≡ old.next_claim → new.line ≡ old.line → new.next_symbol ≡ old.next_symbol → new.next_buffer ≡ old.next_buffer
    → new.seats.items ≡ old.seats.items → new.needs.items ≡ old.needs.items → new.windows.items ≡ old.windows.items → claimed o d m (so_far old) ≡ Some (so_far new)
claim_made o d m r old new claim load renamed added line buffer named defined over next loaded function number same_line symbols buffers seats needs windows =
    let all : map claim_of new.claims.items ≡ map claim_of old.claims.items ++ claim_of claim ∷ [] = ap (map claim_of) added ∙ map-append claim_of old.claims.items (claim ∷ []) in
    let loads : map load_of new.loads.items ≡ map load_of old.loads.items ++ load_of load ∷ [] = ap (map load_of) loaded ∙ map-append load_of old.loads.items (load ∷ []) in
    let state : so_far new ≡ with_claim o d r (so_far old) = λ i. record {
      line = same_line i;
      symbol = symbols i;
      buffer = buffers i;
      claim = next i;
      loads = (loads ∙ (λ j. map load_of old.loads.items ++ (function j, number j) ∷ [])) i;
      seats = map seat_of (seats i);
      needs = needs i;
      claims = (all ∙ (λ j. map claim_of old.claims.items ++ record { line = line j; buffer = buffer j; function = named j; definition = defined j; region = over j } ∷ [])) i;
      windows = windows i;
    } in
    bound (region_renamed m o.claimed) (λ x. Some (with_claim o d x (so_far old))) r (Some (so_far new)) renamed (ap (λ (p : SoFar). Some p) (sym state))

pub seated_made : (n b : ℕ) (i : PlacedText) (m : Pairs) (places : List Places) (old new : Body) (seat : Seat) (v : List Stmt) (s : Stmt) → places_renamed m i.places ≡ Some places
    → b ≡ old.next_buffer → new.seats.items ≡ old.seats.items ++ seat ∷ [] → seat.number ≡ n → seat.buffer ≡ b → new.line ≡ old.line + 1 → new.next_buffer ≡ b + 1
    → new.next_symbol ≡ old.next_symbol → new.next_claim ≡ old.next_claim → new.loads.items ≡ old.loads.items → new.needs.items ≡ old.needs.items
    → new.claims.items ≡ old.claims.items → new.windows.items ≡ old.windows.items → v ≡ s ∷ [] → statement_of s ≡ Alloc b i.function.subject.name places
    → seated n i m (so_far old) ≡ Some (list_statements v, so_far new)
seated_made n b i m places old new seat v s renamed is pushed numbered buffered lined next symbols claim loads needs claims windows alone alloc =
    let q : SoFar = record (so_far old) { line = old.line + 1; buffer = old.next_buffer + 1; seats = map seat_of old.seats.items ++ (n, old.next_buffer) ∷ [] } in
    let seats : map seat_of new.seats.items ≡ map seat_of old.seats.items ++ (n, old.next_buffer) ∷ [] =
    ap (map seat_of) pushed ∙ (map-append seat_of old.seats.items (seat ∷ []) ∙ (λ j. map seat_of old.seats.items ++ (numbered j, (buffered ∙ is) j) ∷ [])) in
    let buffer : new.next_buffer ≡ old.next_buffer + 1 = next ∙ ap (λ (k : ℕ). k + 1) is in
    let state : so_far new ≡ q = λ j. record {
      line = lined j;
      symbol = symbols j;
      buffer = buffer j;
      claim = claim j;
      loads = map load_of (loads j);
      seats = seats j;
      needs = needs j;
      claims = map claim_of (claims j);
      windows = windows j;
    } in
    let first : list_statements v ≡ Alloc old.next_buffer i.function.subject.name places ∷ [] =
    ap list_statements alone ∙ (ap (λ (t : Statement). t ∷ []) alloc ∙ ap (λ (k : ℕ). Alloc k i.function.subject.name places ∷ []) is) in
    bound (places_renamed m i.places) (λ x. Some (Alloc old.next_buffer i.function.subject.name x ∷ [], q)) places (Some (list_statements v, so_far new)) renamed
    (λ j. Some (sym first j, sym state j))

-- ---- places

pub buffers_none : (inners : List Inner) (s : Spot) (m : Pairs) (count : ℕ) (p : SoFar) (zs : List Stmt) → count < 1 → zs ≡ []
    → buffers_at (map inner_seen inners) s m (numbers_down count) p ≡ Some (list_statements zs, p)
buffers_none inners s m count p zs none z =
    ap (λ (l : List ℕ). buffers_at (map inner_seen inners) s m l p) (no_numbers count none) ∙ ap (λ (l : List Stmt). Some (list_statements l, p)) (sym z)

pub buffers_first : (inners : List Inner) (s : Spot) (m : Pairs) (count last : ℕ) (i : Inner) (old one new : SoFar) (xs ys zs : List Stmt) → count ≡ last + 1
    → slice_get inners last ≡ Some i → buffer_at s m last (inner_seen i) old ≡ Some (list_statements xs, one)
    → buffers_at (map inner_seen inners) s m (numbers_down last) one ≡ Some (list_statements ys, new) → zs ≡ xs ++ ys
    → buffers_at (map inner_seen inners) s m (numbers_down count) old ≡ Some (list_statements zs, new)
buffers_first inners s m count last i old one new xs ys zs is e f h z =
    subst (λ (l : List ℕ). buffers_at (map inner_seen inners) s m l old ≡ Some (list_statements zs, new)) (one_number count last is)
    (both_made (slice_get (map inner_seen inners) last >>= λ j. buffer_at s m last j old) (buffers_at (map inner_seen inners) s m (numbers_down last)) xs ys zs one new
    (found inners last i (λ j. buffer_at s m last j old) (Some (list_statements xs, one)) e f) h z)

buffers_by : (inners : List Inner) (s : Spot) (m : Pairs) (count last : ℕ) (old : SoFar) (o : Option Inner) (r : Made) → count ≡ last + 1 → slice_get inners last ≡ o
    → both (option_map inner_seen o >>= λ i. buffer_at s m last i old) (buffers_at (map inner_seen inners) s m (numbers_down last)) ≡ r
    → buffers_at (map inner_seen inners) s m (numbers_down count) old ≡ r
buffers_by inners s m count last old o r is e h =
    let rest = buffers_at (map inner_seen inners) s m (numbers_down last) in
    ap (λ (l : List ℕ). buffers_at (map inner_seen inners) s m l old) (sym (one_number count last is))
    ∙ (ap (λ p. both (p >>= λ i. buffer_at s m last i old) rest) (slice_get-map inner_seen inners last ∙ ap (option_map inner_seen) e) ∙ h)

-- there is no function of this number, it has no places, or a later one has none
pub buffers_missing : (inners : List Inner) (s : Spot) (m : Pairs) (count last : ℕ) (old : SoFar) → count ≡ last + 1 → slice_get inners last ≡ None
    → buffers_at (map inner_seen inners) s m (numbers_down count) old ≡ None
buffers_missing inners s m count last old is none = buffers_by inners s m count last old None None is none refl

pub buffers_stop : (inners : List Inner) (s : Spot) (m : Pairs) (count last : ℕ) (i : Inner) (old : SoFar) → count ≡ last + 1 → slice_get inners last ≡ Some i
    → buffer_at s m last (inner_seen i) old ≡ None → buffers_at (map inner_seen inners) s m (numbers_down count) old ≡ None
buffers_stop inners s m count last i old is e none =
    buffers_by inners s m count last old (Some i) None is e (none_first (buffer_at s m last (inner_seen i) old) (buffers_at (map inner_seen inners) s m (numbers_down last)) none)

pub buffers_stop_later : (inners : List Inner) (s : Spot) (m : Pairs) (count last : ℕ) (i : Inner) (old one : SoFar) (xs : List Statement) → count ≡ last + 1
    → slice_get inners last ≡ Some i → buffer_at s m last (inner_seen i) old ≡ Some (xs, one) → buffers_at (map inner_seen inners) s m (numbers_down last) one ≡ None
    → buffers_at (map inner_seen inners) s m (numbers_down count) old ≡ None
buffers_stop_later inners s m count last i old one xs is e first none =
    buffers_by inners s m count last old (Some i) None is e
    (none_then (buffer_at s m last (inner_seen i) old) (buffers_at (map inner_seen inners) s m (numbers_down last)) xs one first none)

-- the nests of functions are made so
module _ (make : Nests) (inners : List Inner) (s : Spot) (m : Pairs) where
  pub functions_none : (count : ℕ) (p : SoFar) (zs : List Stmt) → count < 1 → zs ≡ [] → functions_at make (map inner_seen inners) s m (numbers_down count) p ≡ Some (list_statements zs, p)
  functions_none count p zs none z =
      ap (λ (l : List ℕ). functions_at make (map inner_seen inners) s m l p) (no_numbers count none) ∙ ap (λ (l : List Stmt). Some (list_statements l, p)) (sym z)

  pub functions_first : (count last : ℕ) (i : Inner) (old one new : SoFar) (xs ys zs : List Stmt) → count ≡ last + 1 → slice_get inners last ≡ Some i
      → function_at make s m last (inner_seen i) old ≡ Some (list_statements xs, one)
      → functions_at make (map inner_seen inners) s m (numbers_down last) one ≡ Some (list_statements ys, new) → zs ≡ xs ++ ys
      → functions_at make (map inner_seen inners) s m (numbers_down count) old ≡ Some (list_statements zs, new)
  functions_first count last i old one new xs ys zs is e f h z =
      subst (λ (l : List ℕ). functions_at make (map inner_seen inners) s m l old ≡ Some (list_statements zs, new)) (one_number count last is)
      (both_made (slice_get (map inner_seen inners) last >>= λ j. function_at make s m last j old) (functions_at make (map inner_seen inners) s m (numbers_down last)) xs ys zs one new
      (found inners last i (λ j. function_at make s m last j old) (Some (list_statements xs, one)) e f) h z)

  functions_by : (count last : ℕ) (old : SoFar) (o : Option Inner) (r : Made) → count ≡ last + 1 → slice_get inners last ≡ o
      → both (option_map inner_seen o >>= λ i. function_at make s m last i old) (functions_at make (map inner_seen inners) s m (numbers_down last)) ≡ r
      → functions_at make (map inner_seen inners) s m (numbers_down count) old ≡ r
  functions_by count last old o r is e h =
      let rest = functions_at make (map inner_seen inners) s m (numbers_down last) in
      ap (λ (l : List ℕ). functions_at make (map inner_seen inners) s m l old) (sym (one_number count last is))
      ∙ (ap (λ p. both (p >>= λ i. function_at make s m last i old) rest) (slice_get-map inner_seen inners last ∙ ap (option_map inner_seen) e) ∙ h)

  -- there is no function of this number, it has no nests, or a later one has none
  pub functions_missing : (count last : ℕ) (old : SoFar) → count ≡ last + 1 → slice_get inners last ≡ None → functions_at make (map inner_seen inners) s m (numbers_down count) old ≡ None
  functions_missing count last old is none = functions_by count last old None None is none refl

  pub functions_stop : (count last : ℕ) (i : Inner) (old : SoFar) → count ≡ last + 1 → slice_get inners last ≡ Some i → function_at make s m last (inner_seen i) old ≡ None
      → functions_at make (map inner_seen inners) s m (numbers_down count) old ≡ None
  functions_stop count last i old is e none =
      functions_by count last old (Some i) None is e (none_first (function_at make s m last (inner_seen i) old) (functions_at make (map inner_seen inners) s m (numbers_down last)) none)

  pub functions_stop_later : (count last : ℕ) (i : Inner) (old one : SoFar) (xs : List Statement) → count ≡ last + 1 → slice_get inners last ≡ Some i
      → function_at make s m last (inner_seen i) old ≡ Some (xs, one) → functions_at make (map inner_seen inners) s m (numbers_down last) one ≡ None
      → functions_at make (map inner_seen inners) s m (numbers_down count) old ≡ None
  functions_stop_later count last i old one xs is e first none =
      functions_by count last old (Some i) None is e
      (none_then (function_at make s m last (inner_seen i) old) (functions_at make (map inner_seen inners) s m (numbers_down last)) xs one first none)

  all_by : (count : ℕ) (old : SoFar) (r : Made) → count ≡ length inners
      → both (buffers_at (map inner_seen inners) s m (numbers_down count) old) (functions_at make (map inner_seen inners) s m (numbers_down count)) ≡ r
      → all_at make (map inner_seen inners) s m old ≡ r
  all_by count old r e h =
      let all : length (map inner_seen inners) ≡ count = length-map inners inner_seen ∙ sym e in
      ap (λ (q : ℕ). both (buffers_at (map inner_seen inners) s m (numbers_down q) old) (functions_at make (map inner_seen inners) s m (numbers_down q))) all ∙ h

  pub all_stop : (count : ℕ) (old : SoFar) → count ≡ length inners → buffers_at (map inner_seen inners) s m (numbers_down count) old ≡ None
      → all_at make (map inner_seen inners) s m old ≡ None
  all_stop count old e none =
      all_by count old None e
      (none_first (buffers_at (map inner_seen inners) s m (numbers_down count) old) (functions_at make (map inner_seen inners) s m (numbers_down count)) none)

  pub all_stop_later : (count : ℕ) (old one : SoFar) (xs : List Statement) → count ≡ length inners → buffers_at (map inner_seen inners) s m (numbers_down count) old ≡ Some (xs, one)
      → functions_at make (map inner_seen inners) s m (numbers_down count) one ≡ None → all_at make (map inner_seen inners) s m old ≡ None
  all_stop_later count old one xs e first none =
      all_by count old None e
      (none_then (buffers_at (map inner_seen inners) s m (numbers_down count) old) (functions_at make (map inner_seen inners) s m (numbers_down count)) xs one first none)

  pub all_there : (count : ℕ) (old one new : SoFar) (xs ys zs : List Stmt) → count ≡ length inners
      → buffers_at (map inner_seen inners) s m (numbers_down count) old ≡ Some (list_statements xs, one)
      → functions_at make (map inner_seen inners) s m (numbers_down count) one ≡ Some (list_statements ys, new) → zs ≡ xs ++ ys
      → all_at make (map inner_seen inners) s m old ≡ Some (list_statements zs, new)
  all_there count old one new xs ys zs e f h z =
      let all : count ≡ length (map inner_seen inners) = e ∙ sym (length-map inners inner_seen) in
      let first : buffers_at (map inner_seen inners) s m (numbers_down (length (map inner_seen inners))) old ≡ Some (list_statements xs, one) =
      subst (λ (q : ℕ). buffers_at (map inner_seen inners) s m (numbers_down q) old ≡ Some (list_statements xs, one)) all f in
      let others : functions_at make (map inner_seen inners) s m (numbers_down (length (map inner_seen inners))) one ≡ Some (list_statements ys, new) =
      subst (λ (q : ℕ). functions_at make (map inner_seen inners) s m (numbers_down q) one ≡ Some (list_statements ys, new)) all h in
      both_made (buffers_at (map inner_seen inners) s m (numbers_down (length (map inner_seen inners))) old)
      (functions_at make (map inner_seen inners) s m (numbers_down (length (map inner_seen inners)))) xs ys zs one new first others z

pub function_here : (make : Nests) (s : Spot) (m : Pairs) (n : ℕ) (i : PlacedText) (old one new : SoFar) (xs ys zs : List Stmt) → same_spot i.home s ≡ true
    → own_buffer s m n i old ≡ Some (list_statements xs, one) → make n i m one ≡ Some (list_statements ys, new) → zs ≡ xs ++ ys
    → function_at make s m n i old ≡ Some (list_statements zs, new)
function_here make s m n i old one new xs ys zs e f h z =
    ap (λ (b : Bool). if b then both (own_buffer s m n i old) (make n i m) else nothing old) e ∙ both_made (own_buffer s m n i old) (make n i m) xs ys zs one new f h z

function_by : (make : Nests) (s : Spot) (m : Pairs) (n : ℕ) (i : PlacedText) (old : SoFar) (r : Made) → same_spot i.home s ≡ true
    → both (own_buffer s m n i old) (make n i m) ≡ r → function_at make s m n i old ≡ r
function_by make s m n i old r e h = ap (λ (b : Bool). if b then both (own_buffer s m n i old) (make n i m) else nothing old) e ∙ h

pub function_stops : (make : Nests) (s : Spot) (m : Pairs) (n : ℕ) (i : PlacedText) (old : SoFar) → same_spot i.home s ≡ true → own_buffer s m n i old ≡ None
    → function_at make s m n i old ≡ None
function_stops make s m n i old e none = function_by make s m n i old None e (none_first (own_buffer s m n i old) (make n i m) none)

pub function_stops_later : (make : Nests) (s : Spot) (m : Pairs) (n : ℕ) (i : PlacedText) (old one : SoFar) (xs : List Statement) → same_spot i.home s ≡ true
    → own_buffer s m n i old ≡ Some (xs, one) → make n i m one ≡ None → function_at make s m n i old ≡ None
function_stops_later make s m n i old one xs e first none =
    function_by make s m n i old None e (none_then (own_buffer s m n i old) (make n i m) xs one first none)

-- ---- nests

pub step_next : (rest : Pairs → SoFar → Made) (s t : Step) (m names : Pairs) (old two three new : SoFar) (xs zs : List Stmt) → names ≡ with_name (bound_by s) old.symbol m
    → step_renamed (with_name (bound_by s) old.symbol m) s ≡ Some t → two ≡ with_lines 1 (with_symbol (bound_by s) old) → rest names two ≡ Some (list_statements xs, three)
    → new ≡ with_lines (own_lines t - 1) three → list_statements zs ≡ around t (list_statements xs) → step_in rest s m old ≡ Some (list_statements zs, new)
step_next rest s t m names old two three new xs zs named renamed begun behind ended made =
    let all = with_name (bound_by s) old.symbol m in
    let start = with_lines 1 (with_symbol (bound_by s) old) in
    let by_names : rest all two ≡ Some (list_statements xs, three) = subst (λ (l : Pairs). rest l two ≡ Some (list_statements xs, three)) named behind in
    let inside : rest all start ≡ Some (list_statements xs, three) = subst (λ (p : SoFar). rest all p ≡ Some (list_statements xs, three)) begun by_names in
    bound (step_renamed all s) (λ u. rest all start >>= λ x. Some (around u x.0, with_lines (own_lines u - 1) x.1)) t (Some (list_statements zs, new)) renamed
    (bound (rest all start) (λ x. Some (around t x.0, with_lines (own_lines t - 1) x.1)) (list_statements xs, three) (Some (list_statements zs, new)) inside
    (λ j. Some (sym made j, sym ended j)))

pub step_stops : (rest : Pairs → SoFar → Made) (s t : Step) (m names : Pairs) (old two : SoFar) → names ≡ with_name (bound_by s) old.symbol m
    → step_renamed (with_name (bound_by s) old.symbol m) s ≡ Some t → two ≡ with_lines 1 (with_symbol (bound_by s) old) → rest names two ≡ None → step_in rest s m old ≡ None
step_stops rest s t m names old two named renamed begun none =
    let all = with_name (bound_by s) old.symbol m in
    let start = with_lines 1 (with_symbol (bound_by s) old) in
    let by_names : rest all two ≡ None = subst (λ (l : Pairs). rest l two ≡ None) named none in
    bound (step_renamed all s) (λ u. rest all start >>= λ x. Some (around u x.0, with_lines (own_lines u - 1) x.1)) t None renamed
    (ap (λ r. r >>= λ x. Some (around t x.0, with_lines (own_lines t - 1) x.1)) (subst (λ (p : SoFar). rest all p ≡ None) begun by_names))

module _ (make : Nests) (is : List PlacedText) (o : OwnerText) (d : ℕ) (n : NestText) where
  pub walk_end : (depth : ℕ) (at : Spot) (m : Pairs) (old one new : SoFar) (xs ys zs : List Stmt) → at ≡ spot o.host d depth → all_at make is at m old ≡ Some (list_statements xs, one)
      → stored o d n m one ≡ Some (list_statements ys, new) → zs ≡ xs ++ ys → walk make is o d n depth [] m old ≡ Some (list_statements zs, new)
  walk_end depth at m old one new xs ys zs e f h z =
      let here : all_at make is (spot o.host d depth) m old ≡ Some (list_statements xs, one) = subst (λ (s : Spot). all_at make is s m old ≡ Some (list_statements xs, one)) e f in
      both_made (all_at make is (spot o.host d depth) m old) (stored o d n m) xs ys zs one new here h z

  pub walk_on : (depth : ℕ) (at : Spot) (s : Step) (steps : List Step) (m : Pairs) (old one new : SoFar) (xs ys zs : List Stmt) → at ≡ spot o.host d depth
      → all_at make is at m old ≡ Some (list_statements xs, one) → step_in (walk make is o d n (depth + 1) steps) s m one ≡ Some (list_statements ys, new) → zs ≡ xs ++ ys
      → walk make is o d n depth (s ∷ steps) m old ≡ Some (list_statements zs, new)
  walk_on depth at s steps m old one new xs ys zs e f h z =
      let here : all_at make is (spot o.host d depth) m old ≡ Some (list_statements xs, one) = subst (λ (p : Spot). all_at make is p m old ≡ Some (list_statements xs, one)) e f in
      both_made (all_at make is (spot o.host d depth) m old) (step_in (walk make is o d n (depth + 1) steps) s m) xs ys zs one new here h z

  pub walk_stops : (depth : ℕ) (at : Spot) (steps : List Step) (m : Pairs) (old : SoFar) → at ≡ spot o.host d depth → all_at make is at m old ≡ None
      → walk make is o d n depth steps m old ≡ None
  walk_stops depth at [] m old e none =
      none_first (all_at make is (spot o.host d depth) m old) (stored o d n m) (subst (λ (s : Spot). all_at make is s m old ≡ None) e none)
  walk_stops depth at (s ∷ steps) m old e none =
      none_first (all_at make is (spot o.host d depth) m old) (step_in (walk make is o d n (depth + 1) steps) s m) (subst (λ (p : Spot). all_at make is p m old ≡ None) e none)

  pub walk_end_stops : (depth : ℕ) (at : Spot) (m : Pairs) (old one : SoFar) (xs : List Statement) → at ≡ spot o.host d depth → all_at make is at m old ≡ Some (xs, one)
      → stored o d n m one ≡ None → walk make is o d n depth [] m old ≡ None
  walk_end_stops depth at m old one xs e f none =
      none_then (all_at make is (spot o.host d depth) m old) (stored o d n m) xs one (subst (λ (s : Spot). all_at make is s m old ≡ Some (xs, one)) e f) none

  pub walk_on_stops : (depth : ℕ) (at : Spot) (s : Step) (steps : List Step) (m : Pairs) (old one : SoFar) (xs : List Statement) → at ≡ spot o.host d depth
      → all_at make is at m old ≡ Some (xs, one) → step_in (walk make is o d n (depth + 1) steps) s m one ≡ None → walk make is o d n depth (s ∷ steps) m old ≡ None
  walk_on_stops depth at s steps m old one xs e f none =
      none_then (all_at make is (spot o.host d depth) m old) (step_in (walk make is o d n (depth + 1) steps) s m) xs one
      (subst (λ (p : Spot). all_at make is p m old ≡ Some (xs, one)) e f) none

  pub apart_stops : (depth : ℕ) (steps : List Step) (m : Pairs) (old : SoFar) → walk make is o d n depth steps m old ≡ None → walk_apart make is o d n depth steps m old ≡ None
  apart_stops depth steps m old e = ap (λ (p : Made). p >>= λ x. Some (x.0, with_loads old.loads x.1)) e

  pub nests_stop : (ns : List NestText) (m : Pairs) (old : SoFar) → walk_apart make is o d n 0 n.steps m old ≡ None → nests_from make is o d (n ∷ ns) m old ≡ None
  nests_stop ns m old none = none_first (walk_apart make is o d n 0 n.steps m old) (λ q. claimed o d m q >>= nests_from make is o (d + 1) ns m) none

  pub nests_unclaimed : (ns : List NestText) (m : Pairs) (old one : SoFar) (xs : List Statement) → walk_apart make is o d n 0 n.steps m old ≡ Some (xs, one) → claimed o d m one ≡ None
      → nests_from make is o d (n ∷ ns) m old ≡ None
  nests_unclaimed ns m old one xs e none =
      none_then (walk_apart make is o d n 0 n.steps m old) (λ q. claimed o d m q >>= nests_from make is o (d + 1) ns m) xs one e
      (ap (λ (p : Option SoFar). p >>= nests_from make is o (d + 1) ns m) none)

  pub nests_stop_later : (ns : List NestText) (m : Pairs) (next : ℕ) (old one two : SoFar) (xs : List Statement) → walk_apart make is o d n 0 n.steps m old ≡ Some (xs, one)
      → claimed o d m one ≡ Some two → next ≡ d + 1 → nests_from make is o next ns m two ≡ None → nests_from make is o d (n ∷ ns) m old ≡ None
  nests_stop_later ns m next old one two xs e c i none =
      none_then (walk_apart make is o d n 0 n.steps m old) (λ q. claimed o d m q >>= nests_from make is o (d + 1) ns m) xs one e
      (bound (claimed o d m one) (nests_from make is o (d + 1) ns m) two None c (subst (λ (k : ℕ). nests_from make is o k ns m two ≡ None) i none))

  pub apart_made : (depth : ℕ) (steps : List Step) (m : Pairs) (old one new : SoFar) (xs : List Stmt) → walk make is o d n depth steps m old ≡ Some (list_statements xs, one)
      → new ≡ with_loads old.loads one → walk_apart make is o d n depth steps m old ≡ Some (list_statements xs, new)
  apart_made depth steps m old one new xs e h =
      bound (walk make is o d n depth steps m old) (λ x. Some (x.0, with_loads old.loads x.1)) (list_statements xs, one) (Some (list_statements xs, new)) e
      (ap (λ (p : SoFar). Some (list_statements xs, p)) (sym h))

  pub nests_first : (ns : List NestText) (m : Pairs) (next : ℕ) (old one two new : SoFar) (xs ys zs : List Stmt) → walk_apart make is o d n 0 n.steps m old ≡ Some (list_statements xs, one)
      → claimed o d m one ≡ Some two → next ≡ d + 1 → nests_from make is o next ns m two ≡ Some (list_statements ys, new) → zs ≡ xs ++ ys
      → nests_from make is o d (n ∷ ns) m old ≡ Some (list_statements zs, new)
  nests_first ns m next old one two new xs ys zs e c i h z =
      let others : nests_from make is o (d + 1) ns m two ≡ Some (list_statements ys, new) = subst (λ (k : ℕ). nests_from make is o k ns m two ≡ Some (list_statements ys, new)) i h in
      both_made (walk_apart make is o d n 0 n.steps m old) (λ q. claimed o d m q >>= nests_from make is o (d + 1) ns m) xs ys zs one new e
      (bound (claimed o d m one) (nests_from make is o (d + 1) ns m) two (Some (list_statements ys, new)) c others) z

-- ---- functions inside

pub let_next : (s t : Step) (steps : List Step) (m names behind : Pairs) (old two new : SoFar) (xs zs : List Stmt) → names ≡ with_name (bound_by s) old.symbol m
    → step_renamed (with_name (bound_by s) old.symbol m) s ≡ Some t → two ≡ with_lines 1 (with_symbol (bound_by s) old)
    → lets steps names two ≡ Some (list_statements xs, (behind, new)) → list_statements zs ≡ around t (list_statements xs)
    → lets (s ∷ steps) m old ≡ Some (list_statements zs, (behind, new))
let_next s t steps m names behind old two new xs zs named renamed begun others made =
    let all = with_name (bound_by s) old.symbol m in
    let start = with_lines 1 (with_symbol (bound_by s) old) in
    let by_names : lets steps all two ≡ Some (list_statements xs, (behind, new)) = subst (λ (l : Pairs). lets steps l two ≡ Some (list_statements xs, (behind, new))) named others in
    let inside : lets steps all start ≡ Some (list_statements xs, (behind, new)) = subst (λ (p : SoFar). lets steps all p ≡ Some (list_statements xs, (behind, new))) begun by_names in
    bound (step_renamed all s) (λ u. lets steps all start >>= λ x. Some (around u x.0, x.1)) t (Some (list_statements zs, (behind, new))) renamed
    (bound (lets steps all start) (λ x. Some (around t x.0, x.1)) (list_statements xs, (behind, new)) (Some (list_statements zs, (behind, new))) inside
    (ap (λ (l : List Statement). Some (l, (behind, new))) (sym made)))

pub let_stops : (s t : Step) (steps : List Step) (m names : Pairs) (old two : SoFar) → names ≡ with_name (bound_by s) old.symbol m
    → step_renamed (with_name (bound_by s) old.symbol m) s ≡ Some t → two ≡ with_lines 1 (with_symbol (bound_by s) old) → lets steps names two ≡ None → lets (s ∷ steps) m old ≡ None
let_stops s t steps m names old two named renamed begun none =
    let all = with_name (bound_by s) old.symbol m in
    let start = with_lines 1 (with_symbol (bound_by s) old) in
    let by_names : lets steps all two ≡ None = subst (λ (l : Pairs). lets steps l two ≡ None) named none in
    bound (step_renamed all s) (λ u. lets steps all start >>= λ x. Some (around u x.0, x.1)) t None renamed
    (ap (λ r. r >>= λ x. Some (around t x.0, x.1)) (subst (λ (p : SoFar). lets steps all p ≡ None) begun by_names))

-- no more lets than steps
lets_fit : (steps : List Step) → let_count steps ≤ length steps
lets_fit [] = omega (arith)
lets_fit (Named i pick forms ∷ steps) = let rest = lets_fit steps in omega (arith, rest)
lets_fit (Turns i x kind ∷ steps) = omega (arith)
lets_fit (Tested low high ∷ steps) = omega (arith)

-- they can be taken
pub lets_there : {A : Type 0} (steps : List Step) (n : ℕ) → n ≡ let_count steps → (n < 0) ⊎ (length steps < n) → A
lets_there steps n is (inl h) = absurd (omega (arith, h))
lets_there steps n is (inr h) = let fit = lets_fit steps in absurd (omega (arith, fit, is, h))

pub lets_behind : {A : Type 0} (steps : List Step) (n : ℕ) → n ≡ let_count steps → (length steps < n) ⊎ (length steps < length steps) → A
lets_behind steps n is (inl h) = let fit = lets_fit steps in absurd (omega (arith, fit, is, h))
lets_behind steps n is (inr h) = absurd (omega (arith, h))

module _ (make : Nests) (is : List PlacedText) where
  pub all_made : (b n : ℕ) (i : PlacedText) (o : OwnerText) (m names : Pairs) (old one new : SoFar) (xs ys zs : List Stmt) → lets i.lets m old ≡ Some (list_statements xs, (names, one))
      → o ≡ owner (Inside n) i b → nests_from make is o 0 i.nests names one ≡ Some (list_statements ys, new) → zs ≡ xs ++ ys
      → all_turns make is b n i m old ≡ Some (list_statements zs, new)
  all_made b n i o m names old one new xs ys zs e w h z =
      let others : nests_from make is (owner (Inside n) i b) 0 i.nests names one ≡ Some (list_statements ys, new) =
      subst (λ (u : OwnerText). nests_from make is u 0 i.nests names one ≡ Some (list_statements ys, new)) w h in
      bound (lets i.lets m old) (λ x. nests_from make is (owner (Inside n) i b) 0 i.nests x.1.0 x.1.1 >>= λ y. Some (x.0 ++ y.0, y.1)) (list_statements xs, (names, one))
      (Some (list_statements zs, new)) e
      (bound (nests_from make is (owner (Inside n) i b) 0 i.nests names one) (λ y. Some (list_statements xs ++ y.0, y.1)) (list_statements ys, new) (Some (list_statements zs, new)) others
      (ap (λ (l : List Statement). Some (l, new)) (sym (all_statements xs ys zs z))))

  pub all_stops : (b n : ℕ) (i : PlacedText) (m : Pairs) (old : SoFar) → lets i.lets m old ≡ None → all_turns make is b n i m old ≡ None
  all_stops b n i m old none =
      ap (λ r. r >>= λ x. nests_from make is (owner (Inside n) i b) 0 i.nests x.1.0 x.1.1 >>= λ y. Some (x.0 ++ y.0, y.1)) none

  pub all_stops_later : (b n : ℕ) (i : PlacedText) (o : OwnerText) (m names : Pairs) (old one : SoFar) (xs : List Statement) → lets i.lets m old ≡ Some (xs, (names, one))
      → o ≡ owner (Inside n) i b → nests_from make is o 0 i.nests names one ≡ None → all_turns make is b n i m old ≡ None
  all_stops_later b n i o m names old one xs e w none =
      bound (lets i.lets m old) (λ x. nests_from make is (owner (Inside n) i b) 0 i.nests x.1.0 x.1.1 >>= λ y. Some (x.0 ++ y.0, y.1)) (xs, (names, one)) None e
      (ap (λ (p : Made). p >>= λ y. Some (xs ++ y.0, y.1)) (subst (λ (u : OwnerText). nests_from make is u 0 i.nests names one ≡ None) w none))

  pub arms_stop : (o w : OwnerText) (all anew : NestText) (s : ℕ) (whole names : Pairs) (old : SoFar) → arm make is o all whole old ≡ None
      → arms make is o w all anew s whole names old ≡ None
  arms_stop o w all anew s whole names old none =
      ap (λ (p : Made). p >>= λ x. arm make is w anew names x.1 >>= λ y. Some (First s (Seq (block x.0)) (Seq (block y.0)) ∷ [], with_lines 1 y.1)) none

  pub arms_stop_later : (o w : OwnerText) (all anew : NestText) (s : ℕ) (whole names : Pairs) (old one : SoFar) (xs : List Statement) → arm make is o all whole old ≡ Some (xs, one)
      → arm make is w anew names one ≡ None → arms make is o w all anew s whole names old ≡ None
  arms_stop_later o w all anew s whole names old one xs e none =
      bound (arm make is o all whole old) (λ x. arm make is w anew names x.1 >>= λ y. Some (First s (Seq (block x.0)) (Seq (block y.0)) ∷ [], with_lines 1 y.1)) (xs, one) None e
      (ap (λ (p : Made). p >>= λ y. Some (First s (Seq (block xs)) (Seq (block y.0)) ∷ [], with_lines 1 y.1)) none)

  pub arms_made : (o w : OwnerText) (all anew : NestText) (s : ℕ) (whole names : Pairs) (old one two new : SoFar) (xs ys zs : List Stmt) (first later t : Stmt)
      → arm make is o all whole old ≡ Some (list_statements xs, one) → arm make is w anew names one ≡ Some (list_statements ys, two) → new ≡ with_lines 1 two
      → statement_of first ≡ Seq (block (list_statements xs)) → statement_of later ≡ Seq (block (list_statements ys)) → statement_of t ≡ First s (statement_of first) (statement_of later)
      → zs ≡ t ∷ [] → arms make is o w all anew s whole names old ≡ Some (list_statements zs, new)
  arms_made o w all anew s whole names old one two new xs ys zs first later t e h lined is_first is_later is_t alone =
      let made : list_statements zs ≡ First s (Seq (block (list_statements xs))) (Seq (block (list_statements ys))) ∷ [] =
      ap list_statements alone ∙ (ap (λ (u : Statement). u ∷ []) is_t ∙ (λ j. First s (is_first j) (is_later j) ∷ [])) in
      bound (arm make is o all whole old) (λ x. arm make is w anew names x.1 >>= λ y. Some (First s (Seq (block x.0)) (Seq (block y.0)) ∷ [], with_lines 1 y.1)) (list_statements xs, one)
      (Some (list_statements zs, new)) e
      (bound (arm make is w anew names one) (λ y. Some (First s (Seq (block (list_statements xs))) (Seq (block y.0)) ∷ [], with_lines 1 y.1)) (list_statements ys, two)
      (Some (list_statements zs, new)) h (λ j. Some (sym made j, sym lined j)))

  pub first_and_later_made : (o w : OwnerText) (l : LaterText) (all anew : NestText) (m first whole names : Pairs) (s : ℕ) (old one two three new : SoFar)
      (xs bs cs ds cds bcds zs : List Stmt) → value_in m l.symbol ≡ Some s → lets (Named l.new Min l.first_new ∷ []) m old ≡ Some (list_statements xs, (first, one))
      → first_lets all m one ≡ Some (list_statements bs, (whole, two)) → first_lets anew first two ≡ Some (list_statements cs, (names, three))
      → arms make is o w all anew s whole names three ≡ Some (list_statements ds, new) → cds ≡ cs ++ ds → bcds ≡ bs ++ cds → zs ≡ xs ++ bcds
      → first_and_later make is o w l all anew m old ≡ Some (list_statements zs, new)
  first_and_later_made o w l all anew m first whole names s old one two three new xs bs cs ds cds bcds zs e f g h k a b c =
      let made : list_statements zs ≡ list_statements xs ++ (list_statements bs ++ (list_statements cs ++ list_statements ds)) =
      all_statements xs bcds zs c ∙ ap (λ (t : List Statement). list_statements xs ++ t) (all_statements bs cds bcds b ∙ ap (λ (t : List Statement). list_statements bs ++ t) (all_statements cs ds cds a)) in
      bound (value_in m l.symbol) (λ u. lets (Named l.new Min l.first_new ∷ []) m old >>= λ x. first_lets all m x.1.1 >>= λ y. first_lets anew x.1.0 y.1.1 >>= λ z.
      arms make is o w all anew u y.1.0 z.1.0 z.1.1 >>= λ v. Some (x.0 ++ (y.0 ++ (z.0 ++ v.0)), v.1)) s (Some (list_statements zs, new)) e
      (bound (lets (Named l.new Min l.first_new ∷ []) m old) (λ x. first_lets all m x.1.1 >>= λ y. first_lets anew x.1.0 y.1.1 >>= λ z.
      arms make is o w all anew s y.1.0 z.1.0 z.1.1 >>= λ v. Some (x.0 ++ (y.0 ++ (z.0 ++ v.0)), v.1)) (list_statements xs, (first, one)) (Some (list_statements zs, new)) f
      (bound (first_lets all m one) (λ y. first_lets anew first y.1.1 >>= λ z.
      arms make is o w all anew s y.1.0 z.1.0 z.1.1 >>= λ v. Some (list_statements xs ++ (y.0 ++ (z.0 ++ v.0)), v.1)) (list_statements bs, (whole, two)) (Some (list_statements zs, new)) g
      (bound (first_lets anew first two) (λ z.
      arms make is o w all anew s whole z.1.0 z.1.1 >>= λ v. Some (list_statements xs ++ (list_statements bs ++ (z.0 ++ v.0)), v.1)) (list_statements cs, (names, three))
      (Some (list_statements zs, new)) h
      (bound (arms make is o w all anew s whole names three) (λ v. Some (list_statements xs ++ (list_statements bs ++ (list_statements cs ++ v.0)), v.1)) (list_statements ds, new)
      (Some (list_statements zs, new)) k (ap (λ (t : List Statement). Some (t, new)) (sym made))))))

  sliding_of : (b n : ℕ) (i : PlacedText) (l : LaterText) (o w : OwnerText) (all anew : NestText) (m : Pairs) (old one two new : SoFar) (xs : List Stmt)
      → slice_get i.nests 0 ≡ Some all → slice_get l.nests 0 ≡ Some anew → o ≡ owner (Inside n) i b → w ≡ owner (Anew n) i b
      → first_and_later make is o w l all anew m old ≡ Some (list_statements xs, one) → claimed o 0 m one ≡ Some two → held i l m two ≡ Some new
      → sliding_turns make is b n i l m old ≡ Some (list_statements xs, new)
  sliding_of b n i l o w all anew m old one two new xs e f p q h c k =
      let by_first : first_and_later make is (owner (Inside n) i b) w l all anew m old ≡ Some (list_statements xs, one) =
      subst (λ (u : OwnerText). first_and_later make is u w l all anew m old ≡ Some (list_statements xs, one)) p h in
      let made : first_and_later make is (owner (Inside n) i b) (owner (Anew n) i b) l all anew m old ≡ Some (list_statements xs, one) =
      subst (λ (u : OwnerText). first_and_later make is (owner (Inside n) i b) u l all anew m old ≡ Some (list_statements xs, one)) q by_first in
      let claims : claimed (owner (Inside n) i b) 0 m one ≡ Some two = subst (λ (u : OwnerText). claimed u 0 m one ≡ Some two) p c in
      bound (slice_get i.nests 0) (λ x. slice_get l.nests 0 >>= λ y. first_and_later make is (owner (Inside n) i b) (owner (Anew n) i b) l x y m old >>= λ z.
      claimed (owner (Inside n) i b) 0 m z.1 >>= λ u. held i l m u >>= λ v. Some (z.0, v)) all (Some (list_statements xs, new)) e
      (bound (slice_get l.nests 0) (λ y. first_and_later make is (owner (Inside n) i b) (owner (Anew n) i b) l all y m old >>= λ z.
      claimed (owner (Inside n) i b) 0 m z.1 >>= λ u. held i l m u >>= λ v. Some (z.0, v)) anew (Some (list_statements xs, new)) f
      (bound (first_and_later make is (owner (Inside n) i b) (owner (Anew n) i b) l all anew m old) (λ z.
      claimed (owner (Inside n) i b) 0 m z.1 >>= λ u. held i l m u >>= λ v. Some (z.0, v)) (list_statements xs, one) (Some (list_statements xs, new)) made
      (bound (claimed (owner (Inside n) i b) 0 m one) (λ u. held i l m u >>= λ v. Some (list_statements xs, v)) two (Some (list_statements xs, new)) claims
      (bound (held i l m two) (λ v. Some (list_statements xs, v)) new (Some (list_statements xs, new)) k refl))))

  pub sliding_made : (b n : ℕ) (i : Inner) (l : Later) (o w : OwnerText) (all anew : Nest) (m : Pairs) (old one two new : SoFar) (xs : List Stmt)
      → slice_get i.nests.items 0 ≡ Some all → slice_get l.nests.items 0 ≡ Some anew → o ≡ owner (Inside n) (inner_seen i) b → w ≡ owner (Anew n) (inner_seen i) b
      → first_and_later make is o w (later_seen l) (nest_seen all) (nest_seen anew) m old ≡ Some (list_statements xs, one) → claimed o 0 m one ≡ Some two
      → held (inner_seen i) (later_seen l) m two ≡ Some new → sliding_turns make is b n (inner_seen i) (later_seen l) m old ≡ Some (list_statements xs, new)
  sliding_made b n i l o w all anew m old one two new xs e f p q h c k =
      sliding_of b n (inner_seen i) (later_seen l) o w (nest_seen all) (nest_seen anew) m old one two new xs (slice_get-map nest_seen i.nests.items 0 ∙ ap (option_map nest_seen) e)
      (slice_get-map nest_seen l.nests.items 0 ∙ ap (option_map nest_seen) f) p q h c k

pub held_made : (i : PlacedText) (l : LaterText) (m : Pairs) (x y : Span1) (s : ℕ) (old new : Body) (w : Window) → slice_get i.region l.dimension ≡ Some x → span_renamed m x ≡ Some y
    → value_in m l.symbol ≡ Some s → new.windows.items ≡ old.windows.items ++ w ∷ [] → w.claim ≡ old.next_claim - 1 → w.symbol ≡ s → w.dimension ≡ l.dimension
    → w.fold ≡ fold_of i.function.placed.folds → w.span ≡ y → new.line ≡ old.line → new.next_symbol ≡ old.next_symbol → new.next_buffer ≡ old.next_buffer
    → new.next_claim ≡ old.next_claim → new.loads.items ≡ old.loads.items → new.seats.items ≡ old.seats.items → new.needs.items ≡ old.needs.items
    → new.claims.items ≡ old.claims.items → held i l m (so_far old) ≡ Some (so_far new)
held_made i l m x y s old new w e f g pushed claim symbol dimension fold span line symbols buffer claims loads seats needs told =
    let q : SoFar = record (so_far old) {
      windows = old.windows.items ++ record { claim = old.next_claim - 1; symbol = s; dimension = l.dimension; fold = fold_of i.function.placed.folds; span = y } ∷ [];
    } in
    let state : so_far new ≡ q = λ j. record {
      line = line j;
      symbol = symbols j;
      buffer = buffer j;
      claim = claims j;
      loads = map load_of (loads j);
      seats = map seat_of (seats j);
      needs = needs j;
      claims = map claim_of (told j);
      windows = (pushed ∙ (λ k. old.windows.items ++ record { claim = claim k; symbol = symbol k; dimension = dimension k; fold = fold k; span = span k } ∷ [])) j;
    } in
    bound (slice_get i.region l.dimension) (λ a. span_renamed m a >>= λ b. value_in m l.symbol >>= λ c. Some (record (so_far old) {
      windows = old.windows.items ++ record { claim = old.next_claim - 1; symbol = c; dimension = l.dimension; fold = fold_of i.function.placed.folds; span = b } ∷ [];
    })) x (Some (so_far new)) e
    (bound (span_renamed m x) (λ b. value_in m l.symbol >>= λ c. Some (record (so_far old) {
      windows = old.windows.items ++ record { claim = old.next_claim - 1; symbol = c; dimension = l.dimension; fold = fold_of i.function.placed.folds; span = b } ∷ [];
    })) y (Some (so_far new)) f
    (bound (value_in m l.symbol) (λ c. Some (record (so_far old) {
      windows = old.windows.items ++ record { claim = old.next_claim - 1; symbol = c; dimension = l.dimension; fold = fold_of i.function.placed.folds; span = y } ∷ [];
    })) s (Some (so_far new)) g (ap (λ (p : SoFar). Some p) (sym state))))

-- a function whose nests are made so, one level further inside
pub computed_made : (deep below : ℕ) (is : List PlacedText) (n b : ℕ) (i : PlacedText) (m : Pairs) (old : SoFar) (r : Made) → deep ≡ below + 1 → value_in old.seats n ≡ Some b
    → turns (computed below is) is b n i i.later m old ≡ r → computed deep is n i m old ≡ r
computed_made deep below is n b i m old r e s h =
    let next : deep ≡ suc below = omega (arith, e) in
    ap (λ (k : ℕ). computed k is n i m old) next ∙ bound (value_in old.seats n) (λ c. turns (computed below is) is c n i i.later m old) b r s h

pub computed_all : (deep below : ℕ) (is : List PlacedText) (n b : ℕ) (i : PlacedText) (m : Pairs) (old : SoFar) → deep ≡ below + 1 → value_in old.seats n ≡ Some b
    → i.later ≡ None → all_turns (computed below is) is b n i m old ≡ computed deep is n i m old
computed_all deep below is n b i m old e s none =
    sym (computed_made deep below is n b i m old (all_turns (computed below is) is b n i m old) e s
    (ap (λ (o : Option LaterText). turns (computed below is) is b n i o m old) none))

pub computed_sliding : (deep below : ℕ) (is : List PlacedText) (n b : ℕ) (i : PlacedText) (l : LaterText) (m : Pairs) (old : SoFar) → deep ≡ below + 1
    → value_in old.seats n ≡ Some b → i.later ≡ Some l → sliding_turns (computed below is) is b n i l m old ≡ computed deep is n i m old
computed_sliding deep below is n b i l m old e s some =
    sym (computed_made deep below is n b i m old (sliding_turns (computed below is) is b n i l m old) e s
    (ap (λ (o : Option LaterText). turns (computed below is) is b n i o m old) some))

pub computed_too_deep : (deep : ℕ) (is : List PlacedText) (n : ℕ) (i : PlacedText) (m : Pairs) (old : SoFar) → deep < 1 → computed deep is n i m old ≡ None
computed_too_deep zero is n i m old h = refl
computed_too_deep (suc deep) is n i m old h = absurd (omega (arith, h))

pub computed_unseated : (deep below : ℕ) (is : List PlacedText) (n : ℕ) (i : PlacedText) (m : Pairs) (old : SoFar) → deep ≡ below + 1 → value_in old.seats n ≡ None
    → computed deep is n i m old ≡ None
computed_unseated deep below is n i m old e none =
    let next : deep ≡ suc below = omega (arith, e) in
    ap (λ (k : ℕ). computed k is n i m old) next ∙ ap (λ (r : Option ℕ). r >>= λ c. turns (computed below is) is c n i i.later m old) none

-- ---- the group's own function

pub group_made : (inners : List Inner) (deep count : ℕ) (o : OwnerText) (k : SkeletonText) (names : Pairs) (old one new : SoFar) (xs ys zs : List Stmt) → deep ≡ length inners
    → count ≡ length k.grid + length k.head → names ≡ own_pairs count
    → all_at (computed deep (map inner_seen inners)) (map inner_seen inners) over_grid names old ≡ Some (list_statements xs, one)
    → nests_from (computed deep (map inner_seen inners)) (map inner_seen inners) o 0 k.nests names one ≡ Some (list_statements ys, new) → zs ≡ xs ++ ys
    → nests_over_grid (map inner_seen inners) o k old ≡ Some (list_statements zs, new)
group_made inners deep count o k names old one new xs ys zs e many own f h z =
    let is = map inner_seen inners in
    let all : deep ≡ length is = e ∙ sym (length-map inners inner_seen) in
    let named : names ≡ names_over k = own ∙ ap own_pairs many in
    let made : group_nests deep is o k.nests names old ≡ Some (list_statements zs, new) =
    both_made (all_at (computed deep is) is over_grid names old) (nests_from (computed deep is) is o 0 k.nests names) xs ys zs one new f h z in
    let by_names : group_nests deep is o k.nests (names_over k) old ≡ Some (list_statements zs, new) =
    subst (λ (m : Pairs). group_nests deep is o k.nests m old ≡ Some (list_statements zs, new)) named made in
    subst (λ (d : ℕ). group_nests d is o k.nests (names_over k) old ≡ Some (list_statements zs, new)) all by_names

module _ (inners : List Inner) (deep count : ℕ) (o : OwnerText) (k : SkeletonText) (names : Pairs) (old : SoFar) where
  group_by : (r : Made) → deep ≡ length inners → count ≡ length k.grid + length k.head → names ≡ own_pairs count
      → both (all_at (computed deep (map inner_seen inners)) (map inner_seen inners) over_grid names old)
      (nests_from (computed deep (map inner_seen inners)) (map inner_seen inners) o 0 k.nests names) ≡ r → nests_over_grid (map inner_seen inners) o k old ≡ r
  group_by r e many own h =
      let is = map inner_seen inners in
      let all : length is ≡ deep = length-map inners inner_seen ∙ sym e in
      let named : names_over k ≡ names = sym (own ∙ ap own_pairs many) in
      (λ j. group_nests (all j) is o k.nests (named j) old) ∙ h

  pub group_stops : deep ≡ length inners → count ≡ length k.grid + length k.head → names ≡ own_pairs count
      → all_at (computed deep (map inner_seen inners)) (map inner_seen inners) over_grid names old ≡ None → nests_over_grid (map inner_seen inners) o k old ≡ None
  group_stops e many own none =
      group_by None e many own (none_first (all_at (computed deep (map inner_seen inners)) (map inner_seen inners) over_grid names old)
      (nests_from (computed deep (map inner_seen inners)) (map inner_seen inners) o 0 k.nests names) none)

  pub group_stops_later : (one : SoFar) (xs : List Statement) → deep ≡ length inners → count ≡ length k.grid + length k.head → names ≡ own_pairs count
      → all_at (computed deep (map inner_seen inners)) (map inner_seen inners) over_grid names old ≡ Some (xs, one)
      → nests_from (computed deep (map inner_seen inners)) (map inner_seen inners) o 0 k.nests names one ≡ None → nests_over_grid (map inner_seen inners) o k old ≡ None
  group_stops_later one xs e many own first none =
      group_by None e many own (none_then (all_at (computed deep (map inner_seen inners)) (map inner_seen inners) over_grid names old)
      (nests_from (computed deep (map inner_seen inners)) (map inner_seen inners) o 0 k.nests names) xs one first none)
