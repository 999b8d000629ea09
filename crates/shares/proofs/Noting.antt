-- Fetch lines as they are noted.
use Rattle.std.proofs.Common.{◌≡◌, ℕ, zero, suc, ◌+◌, ◌-◌, ◌^◌, ◌<◌, ◌≤◌, List, [], ◌∷◌, ◌++◌, length, length-append, map, take, drop, drop-cons, get_or, arith, ap, refl, sym, ◌∙◌, subst, min, Bool, true, false, Some, Vec, Global}
use Rattle.std.specs.Prelude.{slice_get}
use Rattle.std.proofs.lemmas.Bool.{false≢true}
use Rattle.std.proofs.lemmas.List.{get_or-map, length-map, map-append}
use Rattle.std.proofs.lemmas.List.Sums.{sum_by-cons}
use Rattle.plan.specs.declared.stmt.Stmt.{Stmt, Seq' as Block, For' as Loop, Let as Naming, First' as AtFirst, Guard' as Where, Alloc as Allocation, Fetch as Fetching, Store as Storing, Publish as Publishing}
use Rattle.plan.specs.Plan.{Seq, Empty, Group, Plan, block}
use Rattle.plan.specs.Lines.{lines, body_line, group_line, groups_lines}
use Rattle.plan.specs.Lists.{list_statements}
use Rattle.plan.specs.View.{statement_of}
use Rattle.soundness.specs.Outline.Flaws.{line_told}
use Rattle.plan.specs.Certificate.Cells.{Piece}
use Rattle.shares.specs.FetchLines.{FetchLine, fetch_lines, block_fetch_lines, fetch_lines_from, plan_fetch_lines, fetched_by, fetched_by_lines}
use Rattle.shares.specs.Lets.{Naming as LetLine, naming}
use Rattle.shares.specs.declared.counts.FetchLine.{FetchLine as LineHeld}
use Rattle.shares.specs.Noted.{AreNotedBy, line_of, lines_noted, told_line}
use Rattle.shares.proofs.Groups.{get_mapped, push_each}

-- neither a block nor a line that fetches
abbrev pub is_still : Stmt → Bool
is_still (Block shape all) = false
is_still (Loop i x kind q body) = true
is_still (Naming i pick forms) = true
is_still (AtFirst i q a r b) = true
is_still (Where low high q body) = true
is_still (Allocation b f places) = true
is_still (Fetching b g r) = false
is_still (Storing b k at e) = true
is_still (Publishing c) = true

-- a line that neither fetches nor has lines inside that count
pub still_notes : (n : ℕ) (ls : List LetLine) (a : Stmt) (at : ℕ) → is_still a ≡ true → fetch_lines n ls (statement_of a) at ≡ []
still_notes n ls (Block shape all) at still = absurd (false≢true still)
still_notes n ls (Loop i x kind q body) at still = refl
still_notes n ls (Naming i pick forms) at still = refl
still_notes n ls (AtFirst i q a r b) at still = refl
still_notes n ls (Where low high q body) at still = refl
still_notes n ls (Allocation b f places) at still = refl
still_notes n ls (Fetching b g r) at still = absurd (false≢true still)
still_notes n ls (Storing b k at' e) at still = refl
still_notes n ls (Publishing c) at still = refl

pub with_nothing : {A : Type 0} (xs : List A) → xs ≡ xs ++ []
with_nothing [] = refl
with_nothing (x ∷ xs) = ap (λ ys. x ∷ ys) (with_nothing xs)

pub nothing_noted : (old : List FetchLine) (n : ℕ) (ls : List LetLine) (a : Stmt) (at : ℕ) → is_still a ≡ true → old ≡ old ++ map told_line (fetch_lines n ls (statement_of a) at)
nothing_noted old n ls a at still = with_nothing old ∙ ap (λ (xs : List FetchLine). old ++ map told_line xs) (sym (still_notes n ls a at still))

-- the lines of some statements of a group behind these lines `let`, of which the first begins at a line
abbrev pub lines_in : ℕ → List LetLine → List Stmt → ℕ → List FetchLine
lines_in n ls xs at = block_fetch_lines n ls (block (list_statements xs)) at

pub next_in : (n : ℕ) (ls : List LetLine) (xs : List Stmt) (k : ℕ) (d : Stmt) (at : ℕ) → k < length xs → d ≡ get_or xs k d →
    lines_in n ls (drop k xs) at ≡ fetch_lines n ls (statement_of d) at ++ lines_in n (ls ++ naming (statement_of d)) (drop (k + 1) xs) (at + lines (statement_of d))
next_in n ls xs k d at less is =
    let one : suc k ≡ k + 1 = omega arith in
    ap (λ (ys : List Stmt). lines_in n ls ys at) (drop-cons xs k d less)
    ∙ ap (λ (a : Stmt). fetch_lines n ls (statement_of a) at ++ lines_in n (ls ++ naming (statement_of a)) (drop (suc k) xs) (at + lines (statement_of a))) (sym is)
    ∙ ap (λ (m : ℕ). fetch_lines n ls (statement_of d) at ++ lines_in n (ls ++ naming (statement_of d)) (drop m xs) (at + lines (statement_of d))) one

pub none_in : (n : ℕ) (ls : List LetLine) (xs : List Stmt) (k : ℕ) (at : ℕ) → length xs ≡ k → lines_in n ls (drop k xs) at ≡ []
none_in n ls [] k at e = rw (sym e) refl
none_in n ls (x ∷ xs) k at e = rw (sym e) (none_in n ls xs (length xs) at refl)

-- the line after one that begun at a line
pub told_after : (begun now at count more : ℕ) → begun ≡ line_told at → more ≡ min count (2 ^ 32 - 1) → now ≡ min (begun + more) (2 ^ 32 - 1) → now ≡ line_told (at + count)
told_after begun now at count more e f g = omega (arith, e, f, g)

-- ---- a plan's lines

abbrev pub no_group : Group
no_group = record { function = []; region = []; grid = []; body = Seq Empty }

-- before the first group stand three lines
none_before : (gs : List Group) → groups_lines (take 0 gs) ≡ 0
none_before [] = refl
none_before (g ∷ gs) = refl

pub first_group : (p : Plan) → 4 ≡ line_told (group_line p 0)
first_group p = let none = none_before p.groups in omega (arith, none)

pub from_first : (gs : List Group) → drop 0 gs ≡ gs
from_first [] = refl
from_first (g ∷ gs) = refl

pub next_group : (p : Plan) (gs : List Group) (k n : ℕ) (d : Group) → n < length gs →
    fetch_lines_from p k (drop n gs) ≡ fetch_lines k [] (get_or gs n d).body (body_line p k) ++ fetch_lines_from p (k + 1) (drop (n + 1) gs)
next_group p gs k n d less =
    let one : suc n ≡ n + 1 = omega arith in
    let row = fetch_lines k [] (get_or gs n d).body (body_line p k) in
    ap (fetch_lines_from p k) (drop-cons gs n d less) ∙ ap (λ (m : ℕ). row ++ fetch_lines_from p (k + 1) (drop m gs)) one

pub last_group : (p : Plan) (gs : List Group) (k n : ℕ) → length gs ≤ n → fetch_lines_from p k (drop n gs) ≡ []
last_group p [] k zero h = refl
last_group p [] k (suc n) h = refl
last_group p (x ∷ xs) k zero h = absurd (omega (arith, h))
last_group p (x ∷ xs) k (suc n) h = last_group p xs k n (omega (arith, h))

-- lines count the same however their numbers are told
pub told_counts : (js : List Piece) (xs : List FetchLine) → fetched_by_lines js (map told_line xs) ≡ fetched_by_lines js xs
told_counts js [] = refl
told_counts js (x ∷ xs) =
    let one = sum_by-cons (fetched_by js) (told_line x) (map told_line xs) in
    let two = sum_by-cons (fetched_by js) x xs in
    let rest = told_counts js xs in
    omega (arith, one, two, rest)

-- ---- a plan's lines as code has them

abbrev pub no_line : FetchLine
no_line = record { line = 0; group = 0; lets = []; fetched = 0; region = [] }

module _ (p : Plan) (held : List LineHeld) (all : lines_noted held ≡ map told_line (plan_fetch_lines p)) where
  pub noted_long : length held ≡ length (plan_fetch_lines p)
  noted_long = sym (length-map held line_of) ∙ ap length all ∙ length-map (plan_fetch_lines p) told_line

  pub noted_at : (k : ℕ) (x : LineHeld) → k < length held → x ≡ get_or held k x → line_of x ≡ told_line (get_or (plan_fetch_lines p) k no_line)
  noted_at k x less is =
      let long = noted_long in
      ap line_of is ∙ sym (get_or-map line_of held k x (line_of x) less) ∙ ap (λ (xs : List FetchLine). get_or xs k (line_of x)) all
      ∙ get_or-map told_line (plan_fetch_lines p) k no_line (line_of x) (omega (arith, less, long))

-- ---- the fetch lines of groups

abbrev pub held : Vec LineHeld Global → List LineHeld
held v = v.items

pub none_noted : (p : Plan) (lists : List (List LineHeld)) → lists ≡ [] → AreNotedBy p 0 lists
none_noted p lists e = subst (AreNotedBy p 0) (sym e) (record { count = refl; each = λ n ls at. absurd (cc at) })

-- one group more
pub noted_last : (p : Plan) (number : ℕ) (old now : List (Vec LineHeld Global)) (noted : Vec LineHeld Global) (none : List LineHeld) → now ≡ old ++ noted ∷ [] → none ≡ [] →
    AreNotedBy p number (map held old) →
    ((g : Group) → slice_get p.groups number ≡ Some g → lines_noted noted.items ≡ lines_noted none ++ map told_line (fetch_lines number [] g.body (body_line p number))) →
    AreNotedBy p (number + 1) (map held now)
noted_last p number old now noted none e empty before this =
    let P : ℕ → List LineHeld → Type 0 = λ n ls. (g : Group) → slice_get p.groups n ≡ Some g → lines_noted ls ≡ map told_line (fetch_lines n [] g.body (body_line p n)) in
    let path : map held now ≡ map held old ++ noted.items ∷ [] = ap (map held) e ∙ map-append held old (noted ∷ []) in
    let here : P number noted.items = λ g at. this g at ∙ ap (λ (ns : List LineHeld). lines_noted ns ++ map told_line (fetch_lines number [] g.body (body_line p number))) empty in
    record {
      count = ap length path ∙ length-append (map held old) (noted.items ∷ []) ∙ ap (λ (n : ℕ). n + 1) before.count;
      each = subst (λ (xs : List (List LineHeld)). (n : ℕ) (ls : List LineHeld) → slice_get xs n ≡ Some ls → P n ls) (sym path)
          (push_each P (map held old) noted.items before.each (subst (λ (n : ℕ). P n noted.items) (sym before.count) here));
    }

pub group_noted : (p : Plan) (groups : ℕ) (all : List (Vec LineHeld Global)) → AreNotedBy p groups (map held all) → (n : ℕ) (v : Vec LineHeld Global) → n < groups → v ≡ get_or all n v →
    (g : Group) → slice_get p.groups n ≡ Some g → lines_noted v.items ≡ map told_line (fetch_lines n [] g.body (body_line p n))
group_noted p groups all h n v less is =
    let long = length-map all held in
    let count = h.count in
    let at : slice_get (map held all) n ≡ Some (held v) = get_mapped held all n v (omega (arith, less, long, count)) ∙ ap (λ (w : Vec LineHeld Global). Some (held w)) (sym is) in
    h.each n (held v) at
