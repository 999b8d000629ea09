-- Loops over what stands and over the loops of a nest, turn by turn.
use Rattle.std.proofs.Common.{◌≡◌, ℕ, ◌+◌, ◌<◌, Bool, true, false, List, [], ◌∷◌, ◌++◌, length, map, drop, drop-cons, add-one, get_or, Some, None, Option, refl, ap, ◌∙◌, append_assoc}
use Rattle.std.specs.Prelude.{filter, reverse}
use Rattle.std.specs.Prelude.{pos}
use Rattle.lin.specs.Forms.{Form, number, combined}
use Rattle.meaning.specs.Names.{same_name, is_among}
use Rattle.sched.specs.declared.schedule.Split.{Split}
use Rattle.sched.specs.declared.placing.Loop.{Loop}
use Rattle.sched.specs.declared.numbers.Numbers.{Numbers}
use Rattle.sched.specs.declared.skeleton.Step.{Step}
use Rattle.sched.specs.declared.skeleton.Known.{Known}
use Rattle.sched.specs.declared.skeleton.Within.{Within}
use Rattle.sched.specs.declared.nest.Turning.{Turning}
use Rattle.sched.specs.Placing.{is_parallel}
use Rattle.sched.specs.Numbers.{numbers_named, parallel_loops}
use Rattle.sched.specs.Standing.{◌>>=◌, StandingText, form_named, counted_from, begin, begin_over, begin_at, room, is_guarded, join, settle_some, cuts_of, cuts_by_variable}
use Rattle.sched.specs.Skeleton.{BodyText, is_missing, kept_from, is_in_nest, loop_turning, turn, turn_all, variables_at, grid_forms}

-- the first of the name
pub form_next : (ks : List Known) (x : List ℕ) (i : ℕ) (d : Known) → i < length ks → same_name (get_or ks i d).name x ≡ true → form_named (drop i ks) x ≡ Some (get_or ks i d).form
form_next ks x i d lt h = rw (drop-cons ks i d lt, h) refl

pub form_not : (ks : List Known) (x : List ℕ) (i : ℕ) (d : Known) → i < length ks → same_name (get_or ks i d).name x ≡ false → form_named (drop i ks) x ≡ form_named (drop (i + 1) ks) x
form_not ks x i d lt h = rw (drop-cons ks i d lt, add-one, h) refl

-- the definition has the next variable, or not
pub kept_next : (b : BodyText) (xs : List (List ℕ)) (i : ℕ) (d : List ℕ) → i < length xs → is_missing b i ≡ false → kept_from b i (drop i xs) ≡ get_or xs i d ∷ kept_from b (i + 1) (drop (i + 1) xs)
kept_next b xs i d lt h = rw (drop-cons xs i d lt, add-one, h) refl

pub kept_not : (b : BodyText) (xs : List (List ℕ)) (i : ℕ) (d : List ℕ) → i < length xs → is_missing b i ≡ true → kept_from b i (drop i xs) ≡ kept_from b (i + 1) (drop (i + 1) xs)
kept_not b xs i d lt h = rw (drop-cons xs i d lt, add-one, h) refl

-- the next loop is one of the nest, or not
pub nest_loop_next : (b : BodyText) (v : Bool) (rs : List Numbers) (ls : List Loop) (i : ℕ) (d : Loop) → i < length ls → is_in_nest b v (get_or ls i d) ≡ true → map (loop_turning rs) (filter (is_in_nest b v) (drop i ls)) ≡ loop_turning rs (get_or ls i d) ∷ map (loop_turning rs) (filter (is_in_nest b v) (drop (i + 1) ls))
nest_loop_next b v rs ls i d lt h = rw (drop-cons ls i d lt, add-one, h) refl

pub nest_loop_not : (b : BodyText) (v : Bool) (rs : List Numbers) (ls : List Loop) (i : ℕ) (d : Loop) → i < length ls → is_in_nest b v (get_or ls i d) ≡ false → map (loop_turning rs) (filter (is_in_nest b v) (drop i ls)) ≡ map (loop_turning rs) (filter (is_in_nest b v) (drop (i + 1) ls))
nest_loop_not b v rs ls i d lt h = rw (drop-cons ls i d lt, add-one, h) refl

-- the next split is one of the variable, or not
pub cut_found : (cs : List Split) (names : List (List ℕ)) (i : ℕ) (d : Split) → i < length cs → is_among names (get_or cs i d).whole ≡ true → cuts_of (drop i cs) names ≡ get_or cs i d ∷ cuts_of (drop (i + 1) cs) (names ++ (get_or cs i d).outer ∷ (get_or cs i d).inner ∷ [])
cut_found cs names i d lt h = rw (drop-cons cs i d lt, add-one, h) refl

pub cut_passed : (cs : List Split) (names : List (List ℕ)) (i : ℕ) (d : Split) → i < length cs → is_among names (get_or cs i d).whole ≡ false → cuts_of (drop i cs) names ≡ cuts_of (drop (i + 1) cs) names
cut_passed cs names i d lt h = rw (drop-cons cs i d lt, add-one, h) refl

-- the coordinate of the next variable
pub variable_at_missing : (b : BodyText) (xs : List (List ℕ)) (ks : List Known) (i : ℕ) (d : List ℕ) → i < length xs → is_missing b i ≡ true → variables_at b i (drop i xs) ks ≡ None ∷ variables_at b (i + 1) (drop (i + 1) xs) ks
variable_at_missing b xs ks i d lt h = rw (drop-cons xs i d lt, add-one, h) refl

pub variable_at_next : (b : BodyText) (xs : List (List ℕ)) (ks : List Known) (i : ℕ) (d : List ℕ) → i < length xs → is_missing b i ≡ false → variables_at b i (drop i xs) ks ≡ form_named ks (get_or xs i d) ∷ variables_at b (i + 1) (drop (i + 1) xs) ks
variable_at_next b xs ks i d lt h = rw (drop-cons xs i d lt, add-one, h) refl

-- the next split is settled
pub settle_next : (h : Within) (rs : List Numbers) (all cs : List Split) (st : StandingText) (i : ℕ) (d : Split) → i < length cs →
    settle_some h rs all (drop i cs) st ≡ (begin (get_or cs i d) (numbers_named rs (get_or cs i d).whole) st >>= λ begun. join h (is_guarded rs all (get_or cs i d)) (get_or cs i d) (numbers_named rs (get_or cs i d).whole) begun >>= settle_some h rs all (drop (i + 1) cs))
settle_next h rs all cs st i d lt = rw (drop-cons cs i d lt, add-one i) refl

-- inside the next loop
pub turn_next : (rs : List Numbers) (cs : List Split) (ts : List Turning) (st : StandingText) (i : ℕ) (d : Turning) → i < length ts → turn_all rs cs (drop i ts) st ≡ (turn rs cs (get_or ts i d) st >>= turn_all rs cs (drop (i + 1) ts))
turn_next rs cs ts st i d lt = rw (drop-cons ts i d lt, add-one i) refl

-- the splits of the next variable, the later first
pub by_variable_next : (cs : List Split) (xs : List (List ℕ)) (i : ℕ) (d : List ℕ) → i < length xs → cuts_by_variable cs (drop i xs) ≡ reverse (cuts_of cs (get_or xs i d ∷ [])) ++ cuts_by_variable cs (drop (i + 1) xs)
by_variable_next cs xs i d lt = rw (drop-cons xs i d lt, add-one) refl

-- a parallel loop has the next symbol
pub grid_next : (rs : List Numbers) (s : ℕ) (ls : List Loop) (i : ℕ) (d : Loop) → i < length ls → is_parallel (get_or ls i d) ≡ true → grid_forms rs s (parallel_loops (drop i ls)) ≡ record { name = (get_or ls i d).name; form = counted_from (numbers_named rs (get_or ls i d).name).low s } ∷ grid_forms rs (s + 1) (parallel_loops (drop (i + 1) ls))
grid_next rs s ls i d lt h = rw (drop-cons ls i d lt, add-one i, h) refl

pub grid_not : (rs : List Numbers) (s : ℕ) (ls : List Loop) (i : ℕ) (d : Loop) → i < length ls → is_parallel (get_or ls i d) ≡ false → grid_forms rs s (parallel_loops (drop i ls)) ≡ grid_forms rs s (parallel_loops (drop (i + 1) ls))
grid_not rs s ls i d lt h = rw (drop-cons ls i d lt, add-one i, h) refl

-- the loop stands behind the steps before it, and the steps inside behind it
pub left_behind : (steps inside : List Step) (one : Step) → (steps ++ one ∷ []) ++ inside ≡ steps ++ one ∷ inside
left_behind steps inside one = append_assoc steps (one ∷ []) inside

-- a block's first number stands as soon as the outer loop does
pub begin_told : (c : Split) (r : Numbers) (st : StandingText) (outer form : Form) → form_named st.starts c.whole ≡ None → form_named st.known c.outer ≡ Some outer → combined (number r.low) (pos c.factor) outer ≡ Some form → begin c r st ≡ Some (begin_at c.tail c.whole form (room r c.factor) st)
begin_told c r st outer form none some sum =
    let unbegun : begin c r st ≡ begin_over c r (form_named st.known c.outer) st = ap (λ (o : Option Form). elim o [ Some f ↦ Some st | None ↦ begin_over c r (form_named st.known c.outer) st ]) none in
    let outside : begin_over c r (form_named st.known c.outer) st ≡ begin_over c r (Some outer) st = ap (λ (o : Option Form). begin_over c r o st) some in
    let told : begin_over c r (Some outer) st ≡ Some (begin_at c.tail c.whole form (room r c.factor) st) = ap (λ (o : Option Form). o >>= λ f. Some (begin_at c.tail c.whole f (room r c.factor) st)) sum in
    unbegun ∙ outside ∙ told
