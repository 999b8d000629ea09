-- What stands around a place, which functions are computed there, and what is called there, part by part.
use Rattle.std.proofs.Common.{◌≡◌, ℕ, zero, suc, ◌+◌, ◌<◌, Bool, true, false, List, [], length, map, Option, Some, None, refl, sym, ap, ◌∙◌, arith}
use Rattle.std.specs.Prelude.{slice_get, if◌then◌else◌}
use Rattle.std.specs.Option.{option_map}
use Rattle.std.proofs.lemmas.Option.{slice_get-map}
use Rattle.std.proofs.lemmas.List.{length-map}
use Rattle.lin.specs.declared.scope.Binding.{Binding}
use Rattle.lin.specs.declared.span.Span1.{Span1}
use Rattle.sched.specs.declared.nest.Nest.{Nest}
use Rattle.sched.specs.declared.skeleton.Step.{Step}
use Rattle.sched.specs.Skeleton.{NestText, nest_seen}
use Rattle.sched.specs.Standing.{◌>>=◌}
use Rattle.sched.specs.declared.hosts.Inner.{Inner}
use Rattle.sched.specs.declared.hosts.Later.{Later}
use Rattle.sched.specs.declared.hosts.Spot.{Spot}
use Rattle.sched.specs.Around.{bind_steps}
use Rattle.sched.specs.Fetches.{Entry}
use Rattle.sched.specs.Placed.{PlacedText, inner_seen, later_seen, same_host}
use Rattle.regions.specs.Homes.{HostText, host_at}
use Rattle.regions.specs.Demanded.{scope_of, later_scope_of, later_scope_at, scope_over, nest_at, first_steps, steps_at, with_steps, scope_at, is_behind, inside_by, stands_inside}
use Rattle.sched.specs.Demanded.{number_of}
use Rattle.regions.specs.Guarded.{region_in}

-- ---- what stands around a place

seen_at : (inners : List Inner) (n : ℕ) (i : Inner) → slice_get inners n ≡ Some i → slice_get (map inner_seen inners) n ≡ Some (inner_seen i)
seen_at inners n i e = slice_get-map inner_seen inners n ∙ ap (option_map inner_seen) e

none_at : (inners : List Inner) (n : ℕ) → slice_get inners n ≡ None → slice_get (map inner_seen inners) n ≡ None
none_at inners n e = slice_get-map inner_seen inners n ∙ ap (option_map inner_seen) e

pub scope_found : (inners : List Inner) (n : ℕ) (i : Inner) (s : List Binding) → slice_get inners n ≡ Some i → s ≡ i.scope → s ≡ scope_of (slice_get (map inner_seen inners) n)
scope_found inners n i s e h = h ∙ ap scope_of (sym (seen_at inners n i e))

pub no_scope : (inners : List Inner) (n : ℕ) (s : List Binding) → slice_get inners n ≡ None → s ≡ [] → s ≡ scope_of (slice_get (map inner_seen inners) n)
no_scope inners n s e h = h ∙ ap scope_of (sym (none_at inners n e))

pub later_found : (inners : List Inner) (n : ℕ) (i : Inner) (l : Later) (s : List Binding) → slice_get inners n ≡ Some i → i.later ≡ Some l → s ≡ l.scope
    → s ≡ later_scope_at (slice_get (map inner_seen inners) n)
later_found inners n i l s e some h =
    let there : s ≡ later_scope_of (inner_seen i).later = h ∙ ap (λ (o : Option Later). later_scope_of (option_map later_seen o)) (sym some) in
    there ∙ ap later_scope_at (sym (seen_at inners n i e))

pub none_later : (inners : List Inner) (n : ℕ) (i : Inner) (s : List Binding) → slice_get inners n ≡ Some i → i.later ≡ None → s ≡ []
    → s ≡ later_scope_at (slice_get (map inner_seen inners) n)
none_later inners n i s e none h =
    let there : s ≡ later_scope_of (inner_seen i).later = h ∙ ap (λ (o : Option Later). later_scope_of (option_map later_seen o)) (sym none) in
    there ∙ ap later_scope_at (sym (seen_at inners n i e))

pub no_later : (inners : List Inner) (n : ℕ) (s : List Binding) → slice_get inners n ≡ None → s ≡ [] → s ≡ later_scope_at (slice_get (map inner_seen inners) n)
no_later inners n s e h = h ∙ ap later_scope_at (sym (none_at inners n e))

behind_none : {A B : Type 0} (o : Option A) (f : A → Option B) → o ≡ None → None ≡ (o >>= f)
behind_none o f e = ap (λ p. p >>= f) (sym e)

behind_some : {A B : Type 0} (o : Option A) (f : A → Option B) (x : A) (r : Option B) → o ≡ Some x → r ≡ f x → r ≡ (o >>= f)
behind_some o f x r e h = h ∙ ap (λ p. p >>= f) (sym e)

module _ (e : Entry) (is : List PlacedText) (s : Spot) where
  abbrev of_host : ℕ → Option NestText
  of_host d = host_at e is s.host >>= λ t. slice_get t.nests d

  pub no_definition : s.definition ≡ None → None ≡ nest_at e is s
  no_definition none = behind_none s.definition of_host none

  pub no_host : (d : ℕ) → s.definition ≡ Some d → None ≡ host_at e is s.host → None ≡ nest_at e is s
  no_host d some none = behind_some s.definition of_host d None some (behind_none (host_at e is s.host) (λ t. slice_get t.nests d) (sym none))

  with_host : (d : ℕ) (t : HostText) (r : Option NestText) → s.definition ≡ Some d → Some t ≡ host_at e is s.host → r ≡ slice_get t.nests d → r ≡ nest_at e is s
  with_host d t r some host is_so = behind_some s.definition of_host d r some (behind_some (host_at e is s.host) (λ u. slice_get u.nests d) t r (sym host) is_so)

  pub no_nest : (d : ℕ) (t : HostText) (ns : List Nest) → s.definition ≡ Some d → Some t ≡ host_at e is s.host → t.nests ≡ map nest_seen ns → slice_get ns d ≡ None → None ≡ nest_at e is s
  no_nest d t ns some host nests none =
      with_host d t None some host (sym (ap (λ (l : List NestText). slice_get l d) nests ∙ (slice_get-map nest_seen ns d ∙ ap (option_map nest_seen) none)))

  pub nest_found : (d : ℕ) (t : HostText) (ns : List Nest) (n : Nest) → s.definition ≡ Some d → Some t ≡ host_at e is s.host → t.nests ≡ map nest_seen ns → slice_get ns d ≡ Some n
      → Some (nest_seen n) ≡ nest_at e is s
  nest_found d t ns n some host nests found =
      with_host d t (Some (nest_seen n)) some host (sym (ap (λ (l : List NestText). slice_get l d) nests ∙ (slice_get-map nest_seen ns d ∙ ap (option_map nest_seen) found)))

  pub no_steps : None ≡ nest_at e is s → None ≡ steps_at e is s
  no_steps none = behind_none (nest_at e is s) (λ n. first_steps s.depth n.steps) (sym none)

  pub steps_found : (n : NestText) (r : Option (List Step)) → Some n ≡ nest_at e is s → r ≡ first_steps s.depth n.steps → r ≡ steps_at e is s
  steps_found n r some is_so = behind_some (nest_at e is s) (λ m. first_steps s.depth m.steps) n r (sym some) is_so

  pub scope_with : (steps : List Step) (scope r : List Binding) → Some steps ≡ steps_at e is s → scope ≡ scope_over e is s.host → r ≡ bind_steps scope steps → r ≡ scope_at e is s
  scope_with steps scope r some over is_so =
      is_so ∙ (ap (λ (b : List Binding). bind_steps b steps) over ∙ ap (with_steps (scope_over e is s.host)) some)

  pub scope_without : (r : List Binding) → None ≡ steps_at e is s → r ≡ scope_over e is s.host → r ≡ scope_at e is s
  scope_without r none is_so = is_so ∙ ap (with_steps (scope_over e is s.host)) none

-- ---- what is computed there

pub same_length : (inners : List Inner) → length inners ≡ length (map inner_seen inners)
same_length inners = sym (length-map inners inner_seen)

pub too_deep : (is : List PlacedText) (s : Spot) (deep n : ℕ) → deep < 1 → false ≡ stands_inside is s deep n
too_deep is s zero n h = refl
too_deep is s (suc deep) n h = absurd (omega (arith, h))

module _ (inners : List Inner) (s : Spot) (deep below n : ℕ) where
  inside_of : (o : Option PlacedText) → slice_get (map inner_seen inners) n ≡ o → deep ≡ below + 1
      → elim o [ Some i ↦ inside_by (stands_inside (map inner_seen inners) s below) s i | None ↦ false ] ≡ stands_inside (map inner_seen inners) s deep n
  inside_of o e next =
      let all : suc below ≡ deep = omega (arith, next) in
      ap (λ (p : Option PlacedText). elim p [ Some i ↦ inside_by (stands_inside (map inner_seen inners) s below) s i | None ↦ false ]) (sym e)
      ∙ ap (λ (k : ℕ). stands_inside (map inner_seen inners) s k n) all

  pub no_function : deep ≡ below + 1 → slice_get inners n ≡ None → false ≡ stands_inside (map inner_seen inners) s deep n
  no_function next none = inside_of None (none_at inners n none) next

  found_inside : (i : Inner) (r : Bool) → deep ≡ below + 1 → slice_get inners n ≡ Some i → r ≡ inside_by (stands_inside (map inner_seen inners) s below) s (inner_seen i)
      → r ≡ stands_inside (map inner_seen inners) s deep n
  found_inside i r next some is_so = is_so ∙ inside_of (Some (inner_seen i)) (seen_at inners n i some) next

  pub at_place : (i : Inner) (r : Bool) → deep ≡ below + 1 → slice_get inners n ≡ Some i → same_host i.home.host s.host ≡ true → r ≡ is_behind i.home s
      → r ≡ stands_inside (map inner_seen inners) s deep n
  at_place i r next some same is_so =
      let P : Bool → Bool = λ b. if b then is_behind i.home s else elim (number_of i.home.host) [ Some m ↦ stands_inside (map inner_seen inners) s below m | None ↦ false ] in
      found_inside i r next some (is_so ∙ ap P (sym same))

  pub in_nests : (i : Inner) (m : ℕ) (r : Bool) → deep ≡ below + 1 → slice_get inners n ≡ Some i → same_host i.home.host s.host ≡ false → Some m ≡ number_of i.home.host
      → r ≡ stands_inside (map inner_seen inners) s below m → r ≡ stands_inside (map inner_seen inners) s deep n
  in_nests i m r next some other number is_so =
      let P : Bool → Bool = λ b. if b then is_behind i.home s else elim (number_of i.home.host) [ Some k ↦ stands_inside (map inner_seen inners) s below k | None ↦ false ] in
      let Q : Option ℕ → Bool = λ o. elim o [ Some k ↦ stands_inside (map inner_seen inners) s below k | None ↦ false ] in
      found_inside i r next some (is_so ∙ (ap Q number ∙ ap P (sym other)))

  pub in_group : (i : Inner) → deep ≡ below + 1 → slice_get inners n ≡ Some i → same_host i.home.host s.host ≡ false → None ≡ number_of i.home.host
      → false ≡ stands_inside (map inner_seen inners) s deep n
  in_group i next some other number =
      let P : Bool → Bool = λ b. if b then is_behind i.home s else elim (number_of i.home.host) [ Some k ↦ stands_inside (map inner_seen inners) s below k | None ↦ false ] in
      let Q : Option ℕ → Bool = λ o. elim o [ Some k ↦ stands_inside (map inner_seen inners) s below k | None ↦ false ] in
      found_inside i false next some (ap Q number ∙ ap P (sym other))

-- ---- what is needed there

pub region_found : (inners : List Inner) (n : ℕ) (i : Inner) (r : List Span1) → slice_get inners n ≡ Some i → r ≡ i.region → r ≡ region_in (slice_get (map inner_seen inners) n)
region_found inners n i r e h = h ∙ ap region_in (sym (seen_at inners n i e))

pub no_region : (inners : List Inner) (n : ℕ) (r : List Span1) → slice_get inners n ≡ None → r ≡ [] → r ≡ region_in (slice_get (map inner_seen inners) n)
no_region inners n r e h = h ∙ ap region_in (sym (none_at inners n e))
