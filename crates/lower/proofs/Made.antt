-- What the groups of a plan are, as they are made one after another.
use Rattle.std.proofs.Common.{◌≡◌, ℕ, ◌+◌, Bool, true, false, not, ◌&&◌, List, [], ◌∷◌, length, map, Option, Some, None, refl, sym, ap, subst, ◌∙◌}
use Rattle.std.specs.Prelude.{if◌then◌else◌}
use Rattle.std.proofs.lemmas.Bool.{false≢true}
use Rattle.lin.specs.Regions.{IsInside}
use Rattle.lin.specs.declared.span.Span1.{Span1}
use Rattle.plan.specs.declared.plan.Group.{Group}
use Rattle.plan.specs.declared.certificate.cert.Own.{Own}
use Rattle.plan.specs.declared.certificate.cert.Claim.{Claim}
use Rattle.plan.specs.declared.certificate.cert.Need.{Need}
use Rattle.meaning.specs.Algorithm.{Algorithm}
use Rattle.lower.specs.declared.lowering.Lowered.{Lowered}
use Rattle.sched.specs.Stored.{FormulaText, StoredText}
use Rattle.sched.specs.Regions.{LaidText}
use Rattle.regions.specs.Regions.{laid_within, laid_functions}
use Rattle.sched.specs.Around.{grid_scope}
use Rattle.lower.specs.Heads.{IsHeadOf}
use Rattle.regions.specs.Faults.{is_homeless, is_whole, are_whole}
use Rattle.lower.specs.declared.parties.Party.{Party}
use Rattle.sched.specs.Fetches.{Entry}
use Rattle.lower.specs.Groups.{IsGroupOf, AreGroupsOf, IsOwnOf, AreOwned, HaveBlocks, line_behind, HaveBodies, root_functions, region_of, HasGroupsFrom, Come, AreKnown, IsKeptPlan}
use Rattle.lower.specs.Groups.{all_known, inside_at, rooted_if, rooted, has_region, AreLaid, IsOwnOver, AreMade, AreBodies, AreBodiesBy, AreOverRegions, placed_of, AreAlone, IsPlanOf}
use Rattle.blocks.specs.Groups.{grid_over, IsOver}
use Rattle.lower.specs.Computed.{AreAllFound}
use Rattle.lower.specs.Broken.{Inside, first_over}
use Rattle.lower.specs.Homes.{AreAllAtHome}
use Rattle.lower.proofs.Grouped.{known_inside}
use Rattle.lower.proofs.Laying.{IsLaidOver, laid_over_it}

pub both : (a b : Bool) → (a && b) ≡ true → (a ≡ true) × (b ≡ true)
both true b h = (refl, h)
both false b h = absurd (false≢true h)

pub whole_root : (g : StoredText) (gs : List StoredText) → are_whole (g ∷ gs) ≡ true → g.subject.is_root ≡ true
whole_root g gs w = (both g.subject.is_root (is_homeless g.placed.homes) (both (is_whole g) (are_whole gs) w).0).0

pub whole_rest : (g : StoredText) (gs : List StoredText) → are_whole (g ∷ gs) ≡ true → are_whole gs ≡ true
whole_rest g gs w = (both (is_whole g) (are_whole gs) w).1

-- ---- one for each root function

group_of : (g : StoredText) (l : LaidText) (fs : List FormulaText) (p : Group) → IsOver (g, l, fs) p → IsGroupOf g p
group_of g l fs p m = record { extents = l.region; named = m.named; region = m.region; grid = m.grid }

each_with : (g : StoredText) (b : Bool) (o : Option (List FormulaText)) (l : Option LaidText) (es : List Entry) (gs : List StoredText) → (b ≡ true → has_region o l ≡ true)
    → ((n : ℕ) (ps : List Group) (os : List Own) → AreMade es n ps os → AreGroupsOf gs ps)
    → (n : ℕ) (ps : List Group) (os : List Own) → AreMade (rooted_if b g o l es) n ps os → AreGroupsOf (if b then g ∷ gs else gs) ps
each_with g true (Some fs) (Some l) es gs h f n [] os m = absurd m
each_with g true (Some fs) (Some l) es gs h f n (p ∷ ps) [] m = absurd m
each_with g true (Some fs) (Some l) es gs h f n (p ∷ ps) (o ∷ os) m = (group_of g l fs p m.0, f (n + 1) ps os m.2)
each_with g true (Some fs) None es gs h f n ps os m = absurd (false≢true (h refl))
each_with g true None l es gs h f n ps os m = absurd (false≢true (h refl))
each_with g false (Some fs) (Some l) es gs h f n ps os m = f n ps os m
each_with g false (Some fs) None es gs h f n ps os m = f n ps os m
each_with g false None l es gs h f n ps os m = f n ps os m

each_of : (gs : List StoredText) (ls : List (Option LaidText)) → AreLaid gs ls → (n : ℕ) (ps : List Group) (os : List Own) → AreMade (rooted true gs ls) n ps os
    → AreGroupsOf (root_functions gs) ps
each_of [] ls h n [] [] m = tt
each_of [] ls h n [] (o ∷ os) m = absurd m
each_of [] ls h n (p ∷ ps) os m = absurd m
each_of (g ∷ gs) [] h n ps os m = absurd h
each_of (g ∷ gs) (l ∷ ls) h n ps os m = each_with g g.subject.is_root g.formulas l (rooted true gs ls) (root_functions gs) h.0 (each_of gs ls h.1) n ps os m

-- ---- a line for each

own_of : (e : Entry) (n : ℕ) (p : Group) (o : Own) → IsOver e p → IsOwnOver e n o → IsOwnOf n p o
own_of e n p o m w =
    let grid = grid_over e.0 e.1.region in
    let there = subst (λ (r : List Span1). IsInside (grid_scope grid) o.region r) (sym m.region) w.inside in
    record { numbered = w.numbered; inside = subst (λ (c : List ℕ). IsInside (grid_scope c) o.region p.region) (sym m.grid) there }

owned : (es : List Entry) (n : ℕ) (ps : List Group) (os : List Own) → AreMade es n ps os → AreOwned n ps os
owned [] n [] [] m = tt
owned [] n [] (o ∷ os) m = absurd m
owned [] n (p ∷ ps) os m = absurd m
owned (e ∷ es) n [] os m = absurd m
owned (e ∷ es) n (p ∷ ps) [] m = absurd m
owned (e ∷ es) n (p ∷ ps) (o ∷ os) m = (own_of e n p o m.0 m.1, owned es (n + 1) ps os m.2)

-- ---- the regions that are needed

abbrev pub regions : List Group → List (List Span1)
regions ps = map (λ p. p.region) ps

needed_with : (g : StoredText) (b : Bool) (o : Option (List FormulaText)) (l : Option LaidText) (es : List Entry) (xs : List (List Span1)) → b ≡ true → (b ≡ true → has_region o l ≡ true)
    → ((n : ℕ) (ps : List Group) (os : List Own) → AreMade es n ps os → regions ps ≡ xs)
    → (n : ℕ) (ps : List Group) (os : List Own) → AreMade (rooted_if b g o l es) n ps os → regions ps ≡ region_of l ∷ xs
needed_with g true (Some fs) (Some l) es xs is h f n [] os m = absurd m
needed_with g true (Some fs) (Some l) es xs is h f n (p ∷ ps) [] m = absurd m
needed_with g true (Some fs) (Some l) es xs is h f n (p ∷ ps) (o ∷ os) m = λ i. m.0.region i ∷ f (n + 1) ps os m.2 i
needed_with g true (Some fs) None es xs is h f n ps os m = absurd (false≢true (h refl))
needed_with g true None l es xs is h f n ps os m = absurd (false≢true (h refl))
needed_with g false o l es xs is h f n ps os m = absurd (false≢true is)

needed : (a : Algorithm) (gs : List StoredText) → are_whole gs ≡ true → AreLaid gs (laid_functions a gs) → (n : ℕ) (ps : List Group) (os : List Own)
    → AreMade (rooted true gs (laid_functions a gs)) n ps os → regions ps ≡ map region_of (laid_functions a gs)
needed a [] w h n [] [] m = refl
needed a [] w h n [] (o ∷ os) m = absurd m
needed a [] w h n (p ∷ ps) os m = absurd m
needed a (g ∷ gs) w h n ps os m =
    let found = laid_functions a gs in
    needed_with g g.subject.is_root g.formulas (laid_within a g gs found) (rooted true gs found) (map region_of found)
    (whole_root g gs w) h.0 (needed a gs (whole_rest g gs w) h.1) n ps os m

-- ---- bodies

none_with : (g : StoredText) (b : Bool) (o : Option (List FormulaText)) (l : Option LaidText) (es : List Entry) → b ≡ false → es ≡ [] → rooted_if b g o l es ≡ []
none_with g true o l es isnt e = absurd (false≢true (sym isnt))
none_with g false (Some fs) (Some l) es isnt e = e
none_with g false (Some fs) None es isnt e = e
none_with g false None l es isnt e = e

-- whole functions are root functions
pub none_else : (gs : List StoredText) (ls : List (Option LaidText)) → are_whole gs ≡ true → rooted false gs ls ≡ []
none_else [] ls w = refl
none_else (g ∷ gs) [] w = refl
none_else (g ∷ gs) (l ∷ ls) w =
    none_with g (not g.subject.is_root) g.formulas l (rooted false gs ls) (ap not (whole_root g gs w)) (none_else gs ls (whole_rest g gs w))

module _ (a : Algorithm) (all : List Entry) where
  bodies_with : (g : StoredText) (b : Bool) (o : Option (List FormulaText)) (l : Option LaidText) (es : List Entry) (gs : List StoredText) → b ≡ true → (b ≡ true → has_region o l ≡ true)
      → g.formulas ≡ o → ((fs : List FormulaText) (x : LaidText) → o ≡ Some fs → l ≡ Some x → IsLaidOver g fs x)
      → ((n c line : ℕ) (ps : List Group) (os : List Own) (cs : List Claim) (ws : List Need) → AreMade es n ps os → AreBodies a all n c line es ps cs ws → HaveBodies a all n c line gs ps cs ws)
      → (n c line : ℕ) (ps : List Group) (os : List Own) (cs : List Claim) (ws : List Need) → AreMade (rooted_if b g o l es) n ps os → AreBodies a all n c line (rooted_if b g o l es) ps cs ws
      → HaveBodies a all n c line (g ∷ gs) ps cs ws
  bodies_with g true (Some fs) (Some l) es gs is h e laid f n c line [] os cs ws m k = absurd m
  bodies_with g true (Some fs) (Some l) es gs is h e laid f n c line (p ∷ ps) [] cs ws m k = absurd m
  bodies_with g true (Some fs) (Some l) es gs is h e laid f n c line (p ∷ ps) (o ∷ os) cs ws m k =
      record {
        own_claims = k.own_claims;
        own_needs = k.own_needs;
        other_claims = k.other_claims;
        other_needs = k.other_needs;
        claimed = k.claimed;
        needed = k.needed;
        here = record { formulas = fs; extents = l.region; skeleton = l.skeleton; defined = e; region = m.0.region; laid = laid fs l refl refl; body = k.here };
        behind = f (n + 1) (c + length k.own_claims) (line_behind line p) ps os k.other_claims k.other_needs m.2 k.behind;
      }
  bodies_with g true (Some fs) None es gs is h e laid f n c line ps os cs ws m k = absurd (false≢true (h refl))
  bodies_with g true None l es gs is h e laid f n c line ps os cs ws m k = absurd (false≢true (h refl))
  bodies_with g false o l es gs is h e laid f n c line ps os cs ws m k = absurd (false≢true is)

  bodies : (gs : List StoredText) → are_whole gs ≡ true → AreLaid gs (laid_functions a gs) → (n c line : ℕ) (ps : List Group) (os : List Own) (cs : List Claim) (ws : List Need)
      → AreMade (rooted true gs (laid_functions a gs)) n ps os → AreBodies a all n c line (rooted true gs (laid_functions a gs)) ps cs ws → HaveBodies a all n c line gs ps cs ws
  bodies [] w h n c line [] [] cs ws m k = k
  bodies [] w h n c line [] (o ∷ os) cs ws m k = absurd m
  bodies [] w h n c line (p ∷ ps) os cs ws m k = absurd m
  bodies (g ∷ gs) w h n c line ps os cs ws m k =
      let found = laid_functions a gs in
      bodies_with g g.subject.is_root g.formulas (laid_within a g gs found) (rooted true gs found) gs (whole_root g gs w) h.0 refl
      (λ fs x e is. laid_over_it a g gs found fs x e is) (bodies gs (whole_rest g gs w) h.1) n c line ps os cs ws m k

-- ---- blocks

blocks_with : (g : StoredText) (b : Bool) (o : Option (List FormulaText)) (l : Option LaidText) (es : List Entry) (gs : List StoredText) → b ≡ true → (b ≡ true → has_region o l ≡ true)
    → g.formulas ≡ o → ((fs : List FormulaText) (x : LaidText) → o ≡ Some fs → l ≡ Some x → IsLaidOver g fs x)
    → ((n : ℕ) (ps : List Group) (os : List Own) → AreMade es n ps os → HaveBlocks gs ps os)
    → (n : ℕ) (ps : List Group) (os : List Own) → AreMade (rooted_if b g o l es) n ps os → HaveBlocks (g ∷ gs) ps os
blocks_with g true (Some fs) (Some l) es gs is h e laid f n [] os m = absurd m
blocks_with g true (Some fs) (Some l) es gs is h e laid f n (p ∷ ps) [] m = absurd m
blocks_with g true (Some fs) (Some l) es gs is h e laid f n (p ∷ ps) (o ∷ os) m =
    (record { formulas = fs; extents = l.region; skeleton = l.skeleton; defined = e; region = m.0.region; laid = laid fs l refl refl; owned = m.1.owned }, f (n + 1) ps os m.2)
blocks_with g true (Some fs) None es gs is h e laid f n ps os m = absurd (false≢true (h refl))
blocks_with g true None l es gs is h e laid f n ps os m = absurd (false≢true (h refl))
blocks_with g false o l es gs is h e laid f n ps os m = absurd (false≢true is)

blocks : (a : Algorithm) (gs : List StoredText) → are_whole gs ≡ true → AreLaid gs (laid_functions a gs) → (n : ℕ) (ps : List Group) (os : List Own)
    → AreMade (rooted true gs (laid_functions a gs)) n ps os → HaveBlocks gs ps os
blocks a [] w h n ps os m = tt
blocks a (g ∷ gs) w h n ps os m =
    let found = laid_functions a gs in
    blocks_with g g.subject.is_root g.formulas (laid_within a g gs found) (rooted true gs found) gs (whole_root g gs w) h.0 refl
    (λ fs x e is. laid_over_it a g gs found fs x e is) (blocks a gs (whole_rest g gs w) h.1) n ps os m

-- ---- all of it

pub plan_made : (a : Algorithm) (all : List Entry) (claims : List Claim) (needs : List Need) (gs : List StoredText) (ls : List (Option LaidText)) (qs : List Party) (es : List Entry)
    (l : Lowered) (ps : List Group)
    (os : List Own) → AreLaid gs ls → AreOverRegions gs ls → all ≡ rooted true gs ls → es ≡ rooted true gs ls → (rooted false gs ls ≡ [] → AreAlone qs) → AreMade es 0 ps os
    → (AreAlone qs → AreBodies a all 0 0 4 es ps claims needs) → l.plan.groups.items ≡ ps → l.certificate.own.items ≡ os → l.certificate.claims.items ≡ claims → l.certificate.needs.items ≡ needs
    → (AreAlone qs → l.certificate.windows.items ≡ []) → IsHeadOf a l.plan → AreAllAtHome es (rooted false gs ls) (map placed_of qs)
    → AreAllFound a (length (rooted false gs ls)) es (rooted false gs ls) (map placed_of qs) → AreBodiesBy a all 0 0 4 (map placed_of qs) es ps claims needs l.certificate.windows.items → AreKnown qs
    → IsPlanOf a gs ls qs l
plan_made a all claims needs gs ls qs es l ps os laid around roots e alone made does is_groups is_own is_claims is_needs windows head homes found by known =
    let held = l.certificate.windows.items in
    record {
      placed = record {
        placed = map placed_of qs;
        stand = record {
          homes = subst (λ (xs : List Entry). AreAllAtHome xs (rooted false gs ls) (map placed_of qs)) e homes;
          found = subst (λ (xs : List Entry). AreAllFound a (length (rooted false gs ls)) xs (rooted false gs ls) (map placed_of qs)) e found;
        };
        bodies =
            let js = map placed_of qs in
            let by_roots : AreBodiesBy a (rooted true gs ls) 0 0 4 js es ps claims needs held = subst (λ (xs : List Entry). AreBodiesBy a xs 0 0 4 js es ps claims needs held) roots by in
            let by_entries : AreBodiesBy a (rooted true gs ls) 0 0 4 js (rooted true gs ls) ps claims needs held =
            subst (λ (xs : List Entry). AreBodiesBy a (rooted true gs ls) 0 0 4 js xs ps claims needs held) e by_roots in
            let by_groups : AreBodiesBy a (rooted true gs ls) 0 0 4 js (rooted true gs ls) l.plan.groups.items claims needs held =
            subst (λ (xs : List Group). AreBodiesBy a (rooted true gs ls) 0 0 4 js (rooted true gs ls) xs claims needs held) (sym is_groups) by_entries in
            let by_claims : AreBodiesBy a (rooted true gs ls) 0 0 4 js (rooted true gs ls) l.plan.groups.items l.certificate.claims.items needs held =
            subst (λ (xs : List Claim). AreBodiesBy a (rooted true gs ls) 0 0 4 js (rooted true gs ls) l.plan.groups.items xs needs held) (sym is_claims) by_groups in
            subst (λ (xs : List Need). AreBodiesBy a (rooted true gs ls) 0 0 4 js (rooted true gs ls) l.plan.groups.items l.certificate.claims.items xs held) (sym is_needs) by_claims;
      };
      known = known;
      are = refl;
      head = head;
      laid = laid;
      around = around;
      made = subst (λ (xs : List Entry). AreMade xs 0 l.plan.groups.items l.certificate.own.items) e
          (subst (λ (xs : List Group). AreMade es 0 xs l.certificate.own.items) (sym is_groups) (subst (λ (xs : List Own). AreMade es 0 ps xs) (sym is_own) made));
      bodies = λ w.
          let by_roots : AreBodies a (rooted true gs ls) 0 0 4 es ps claims needs = subst (λ (xs : List Entry). AreBodies a xs 0 0 4 es ps claims needs) roots (does (alone (none_else gs ls w))) in
          let by_entries : AreBodies a (rooted true gs ls) 0 0 4 (rooted true gs ls) ps claims needs =
          subst (λ (xs : List Entry). AreBodies a (rooted true gs ls) 0 0 4 xs ps claims needs) e by_roots in
          let by_groups : AreBodies a (rooted true gs ls) 0 0 4 (rooted true gs ls) l.plan.groups.items claims needs =
          subst (λ (xs : List Group). AreBodies a (rooted true gs ls) 0 0 4 (rooted true gs ls) xs claims needs) (sym is_groups) by_entries in
          let by_claims : AreBodies a (rooted true gs ls) 0 0 4 (rooted true gs ls) l.plan.groups.items l.certificate.claims.items needs =
          subst (λ (xs : List Claim). AreBodies a (rooted true gs ls) 0 0 4 (rooted true gs ls) l.plan.groups.items xs needs) (sym is_claims) by_groups in
          subst (λ (xs : List Need). AreBodies a (rooted true gs ls) 0 0 4 (rooted true gs ls) l.plan.groups.items l.certificate.claims.items xs) (sym is_needs) by_claims;
      windows = λ w. windows (alone (none_else gs ls w));
    }

pub made_first : (e : Entry) (es : List Entry) (n m : ℕ) (p : Group) (o : Own) (ps qs : List Group) (os rs : List Own) → IsOver e p → IsOwnOver e n o → AreMade es m ps os
    → m ≡ n + 1 → qs ≡ p ∷ ps → rs ≡ o ∷ os → AreMade (e ∷ es) n qs rs
made_first e es n m p o ps qs os rs is own are next h k =
    let behind : AreMade es (n + 1) ps os = subst (λ (i : ℕ). AreMade es i ps os) next are in
    subst (λ (xs : List Group). AreMade (e ∷ es) n xs rs) (sym h) (subst (λ (xs : List Own). AreMade (e ∷ es) n (p ∷ ps) xs) (sym k) (is, own, behind))

pub groups_made : (a : Algorithm) (gs : List StoredText) (n : ℕ) (ls : List (Option LaidText)) (qs : List Party) (l : Lowered) → IsKeptPlan a gs ls qs l
    → (are_whole gs ≡ true → ls ≡ laid_functions a gs) → Come a gs n ls ls (map inside_at qs) → HasGroupsFrom a gs n ls l
groups_made a gs n ls qs l kept_plan laid come =
    let is = kept_plan.plan in
    let inside : map inside_at qs ≡ all_known is.placed.placed = known_inside qs is.known ∙ ap all_known (sym is.are) in
    let ps = l.plan.groups.items in
    let os = l.certificate.own.items in
    let cs = l.certificate.claims.items in
    let ws = l.certificate.needs.items in
    record {
      placed = record {
        regions = ls;
        laid = is.laid;
        around = is.around;
        over = is.made;
        inside = is.placed;
        come = subst (λ (xs : List Inside). Come a gs n ls ls xs) inside come;
        kept = ap (first_over a gs None ls) (sym inside) ∙ kept_plan.kept;
      };
      head = is.head;
      each = each_of gs ls is.laid 0 ps os is.made;
      owned = owned (rooted true gs ls) 0 ps os is.made;
      bodies = λ w. bodies a (rooted true gs (laid_functions a gs)) gs w (subst (AreLaid gs) (laid w) is.laid) 0 0 4 ps os cs ws
          (subst (λ (xs : List (Option LaidText)). AreMade (rooted true gs xs) 0 ps os) (laid w) is.made)
          (subst (λ (xs : List (Option LaidText)). AreBodies a (rooted true gs xs) 0 0 4 (rooted true gs xs) ps cs ws) (laid w) (is.bodies w));
      windows = is.windows;
      blocks = λ w. blocks a gs w (subst (AreLaid gs) (laid w) is.laid) 0 ps os (subst (λ (xs : List (Option LaidText)). AreMade (rooted true gs xs) 0 ps os) (laid w) is.made);
      needed = λ w. needed a gs w (subst (AreLaid gs) (laid w) is.laid) 0 ps os (subst (λ (xs : List (Option LaidText)). AreMade (rooted true gs xs) 0 ps os) (laid w) is.made);
    }
