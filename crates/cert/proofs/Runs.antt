-- Lines that may stand in this order are the first lines of a certificate.
use Rattle.std.proofs.Common.{◌≡◌, ℕ, ◌+◌, ◌<◌, true, false, ◌&&◌, eqb, leb, List, [], ◌∷◌, ◌++◌, map, refl, sym, ap, arith}
use Rattle.std.specs.List.{flat_map, list_all}
use Rattle.std.proofs.lemmas.Bool.{eqb-true, leb-true}
use Rattle.plan.specs.Certificate.Certificate.{Certificate}
use Rattle.cert.specs.declared.line.Mark.{Mark}
use Rattle.cert.specs.declared.line.Mark.TheVariants as mark
use Rattle.cert.specs.Lines.{Line, Head, OwnLine, NeedLine, ClaimLine, WindowLine, End, mark_of, claim_lines, lines_of, own_in, need_in, claim_in}
use Rattle.cert.specs.Order.{fits_line, is_start, is_inside, may_precede_own, may_precede_need, may_precede_claim, may_follow, may_stand}
use Rattle.cert.proofs.Tests.{both}
use Rattle.cert.proofs.Gathered.{gathered}

-- ---- the parts of an order

abbrev pub last_mark : Mark → List Line → Mark
last_mark p [] = p
last_mark p (l ∷ ls) = last_mark (mark_of l) ls

pub record Stands (p : Mark) (l : Line) (ls : List Line) : Type 0 where
  pub follows : may_follow p (mark_of l) ≡ true
  pub fit : fits_line l ≡ true
  pub more : may_stand (mark_of l) ls ≡ true

pub stands : (p : Mark) (l : Line) (ls : List Line) → may_stand p (l ∷ ls) ≡ true → Stands p l ls
stands p l ls h =
    let a = both (may_follow p (mark_of l) && fits_line l) (may_stand (mark_of l) ls) h in
    let b = both (may_follow p (mark_of l)) (fits_line l) a.0 in
    record { follows = b.0; fit = b.1; more = a.1 }

pub stand_both : (p : Mark) (front ls : List Line) → may_stand p front ≡ true → may_stand (last_mark p front) ls ≡ true → may_stand p (front ++ ls) ≡ true
stand_both p [] ls h k = k
stand_both p (l ∷ front) ls h k = let s = stands p l front h in rw (s.follows, s.fit, stand_both (mark_of l) front ls s.more k) refl

pub stand_behind : (p : Mark) (front ls : List Line) → may_stand p (front ++ ls) ≡ true → may_stand (last_mark p front) ls ≡ true
stand_behind p [] ls h = h
stand_behind p (l ∷ front) ls h = stand_behind (mark_of l) front ls (stands p l (front ++ ls) h).more

pub all_fit : (p : Mark) (ls : List Line) → may_stand p ls ≡ true → list_all fits_line ls ≡ true
all_fit p [] h = refl
all_fit p (l ∷ ls) h = let s = stands p l ls h in rw (s.fit, all_fit (mark_of l) ls s.more) refl

pub last_push : (p : Mark) (front : List Line) (l : Line) → last_mark p (front ++ l ∷ []) ≡ mark_of l
last_push p [] l = refl
last_push p (x ∷ front) l = last_push (mark_of x) front l

-- ---- what is missing behind lines

abbrev pub completion : Mark → List Line
completion mark.Start = Head ∷ End ∷ []
completion mark.End = []
completion _ = End ∷ []

pub completion_stands : (p : Mark) → may_stand p (completion p) ≡ true
completion_stands mark.Start = refl
completion_stands _ = refl

only_end : (p : Mark) → is_inside p ≡ true → completion p ≡ End ∷ []
only_end mark.Start h = absurd cc
only_end mark.End h = absurd cc
only_end _ h = refl

-- ---- the runs

-- which run a mark belongs to
abbrev level : Mark → ℕ
level mark.Start = 0
level mark.Head = 1
level (mark.Own g) = 1
level mark.Need = 2
level (mark.Claim k) = 3
level mark.Window = 4
level mark.End = 5

own_level : (p : Mark) (g : ℕ) → may_precede_own p g ≡ true → leb (level p) 1 ≡ true
own_level mark.Start g h = refl
own_level mark.Head g h = refl
own_level (mark.Own x) g h = refl
own_level _ g h = absurd cc

need_level : (p : Mark) → may_precede_need p ≡ true → leb (level p) 2 ≡ true
need_level mark.Start h = refl
need_level mark.Head h = refl
need_level (mark.Own x) h = refl
need_level mark.Need h = refl
need_level _ h = absurd cc

claim_level : (p : Mark) (k : ℕ) → may_precede_claim p k ≡ true → leb (level p) 3 ≡ true
claim_level mark.Window k h = let e = both (eqb k 0) false h in absurd cc
claim_level mark.End k h = let e = both (eqb k 0) false h in absurd cc
claim_level _ k h = refl

inside_level : (p : Mark) → is_inside p ≡ true → leb (level p) 4 ≡ true
inside_level mark.End h = absurd cc
inside_level _ h = refl

start_head : (p : Mark) → is_start p ≡ true → leb (level p) 1 ≡ true
start_head mark.Start h = refl
start_head _ h = absurd cc

inside_end : (p : Mark) → is_inside p ≡ true → leb (level p) 5 ≡ true
inside_end mark.End h = refl
inside_end _ h = refl

not_head : (p : Mark) → is_inside p ≡ true → is_start p ≡ true → ⊥
not_head mark.Start a b = cc
not_head _ a b = cc

after_end : (l : Line) → may_follow mark.End (mark_of l) ≡ true → ⊥
after_end (ClaimLine k c) h = let e = both (eqb k 0) false h in cc
after_end _ h = cc

-- the runs come one after the other
rises : (p m : Mark) → may_follow p m ≡ true → leb (level p) (level m) ≡ true
rises p mark.Start h = absurd cc
rises p mark.Head h = start_head p h
rises p (mark.Own g) h = own_level p g h
rises p mark.Need h = need_level p h
rises p (mark.Claim k) h = claim_level p k h
rises p mark.Window h = inside_level p h
rises p mark.End h = inside_end p h

-- no line of an earlier run follows
none_above : {X : Type 0} (pick : Line → List X) (n : ℕ) (empty : (l : Line) → n < level (mark_of l) → pick l ≡ []) (p : Mark) (ls : List Line)
    → n < level p → may_stand p ls ≡ true → flat_map pick ls ≡ []
none_above pick n empty p [] lt h = refl
none_above pick n empty p (l ∷ ls) lt h =
    let s = stands p l ls h in
    let le = leb-true (level p) (level (mark_of l)) (rises p (mark_of l) s.follows) in
    let up : n < level (mark_of l) = omega (arith, lt, le) in
    rw (empty l up, none_above pick n empty (mark_of l) ls up s.more) refl

no_own : (l : Line) → 1 < level (mark_of l) → own_in l ≡ []
no_own (OwnLine o) lt = absurd (omega (arith, lt))
no_own _ lt = refl

no_need : (l : Line) → 2 < level (mark_of l) → need_in l ≡ []
no_need (NeedLine n) lt = absurd (omega (arith, lt))
no_need _ lt = refl

no_claim : (l : Line) → 3 < level (mark_of l) → claim_in l ≡ []
no_claim (ClaimLine k c) lt = absurd (omega (arith, lt))
no_claim _ lt = refl

-- the number of the next claim
abbrev next_number : Mark → ℕ
next_number (mark.Claim k) = k + 1
next_number _ = 0

own_number : (p : Mark) (g : ℕ) → may_precede_own p g ≡ true → next_number p ≡ 0
own_number (mark.Claim k) g h = absurd cc
own_number _ g h = refl

need_number : (p : Mark) → may_precede_need p ≡ true → next_number p ≡ 0
need_number (mark.Claim k) h = absurd cc
need_number _ h = refl

claim_number : (p : Mark) (k : ℕ) → may_precede_claim p k ≡ true → k ≡ next_number p
claim_number (mark.Claim j) k h = eqb-true k (j + 1) h
claim_number mark.Start k h = eqb-true k 0 (both (eqb k 0) false h).0
claim_number mark.Head k h = eqb-true k 0 (both (eqb k 0) true h).0
claim_number (mark.Own g) k h = eqb-true k 0 (both (eqb k 0) true h).0
claim_number mark.Need k h = eqb-true k 0 (both (eqb k 0) true h).0
claim_number mark.Window k h = eqb-true k 0 (both (eqb k 0) false h).0
claim_number mark.End k h = eqb-true k 0 (both (eqb k 0) false h).0

nothing_after : (ls : List Line) → may_stand mark.End ls ≡ true → ls ≡ []
nothing_after [] h = refl
nothing_after (l ∷ ls) h = absurd (after_end l (stands mark.End l ls h).follows)

-- the runs of a certificate from the own regions on, its claims numbered from there
abbrev runs_of : ℕ → Certificate → List Line
runs_of k c = map OwnLine c.own ++ (map NeedLine c.needs ++ (claim_lines k c.claims ++ (map WindowLine c.windows ++ End ∷ [])))

runs : (p : Mark) (ls : List Line) → is_inside p ≡ true → may_stand p ls ≡ true → ls ++ completion (last_mark p ls) ≡ runs_of (next_number p) (gathered ls)
runs p [] inside h = only_end p inside
runs p (Head ∷ ls) inside h = absurd (not_head p inside (stands p Head ls h).follows)
runs p (OwnLine o ∷ ls) inside h =
    let s = stands p (OwnLine o) ls h in
    rw (own_number p o.group s.follows) (ap (λ w. OwnLine o ∷ w) (runs (mark.Own o.group) ls refl s.more))
runs p (NeedLine n ∷ ls) inside h =
    let s = stands p (NeedLine n) ls h in
    let own = none_above own_in 1 no_own mark.Need ls (omega arith) s.more in
    let more = runs mark.Need ls refl s.more in
    rw (need_number p s.follows, own) (ap (λ w. NeedLine n ∷ w) (rw own at more))
runs p (ClaimLine k c ∷ ls) inside h =
    let s = stands p (ClaimLine k c) ls h in
    let own = none_above own_in 1 no_own (mark.Claim k) ls (omega arith) s.more in
    let need = none_above need_in 2 no_need (mark.Claim k) ls (omega arith) s.more in
    let more = runs (mark.Claim k) ls refl s.more in
    rw (sym (claim_number p k s.follows), own, need) (ap (λ w. ClaimLine k c ∷ w) (rw (own, need) at more))
runs p (WindowLine w ∷ ls) inside h =
    let s = stands p (WindowLine w) ls h in
    let own = none_above own_in 1 no_own mark.Window ls (omega arith) s.more in
    let need = none_above need_in 2 no_need mark.Window ls (omega arith) s.more in
    let claim = none_above claim_in 3 no_claim mark.Window ls (omega arith) s.more in
    let more = runs mark.Window ls refl s.more in
    rw (own, need, claim) (ap (λ v. WindowLine w ∷ v) (rw (own, need, claim) at more))
runs p (End ∷ ls) inside h = rw (nothing_after ls (stands p End ls h).more) refl

first_head : (l : Line) (ls : List Line) → may_stand mark.Start (l ∷ ls) ≡ true → (l ∷ ls) ++ completion (last_mark mark.Start (l ∷ ls)) ≡ lines_of (gathered (l ∷ ls))
first_head Head ls h = ap (λ w. Head ∷ w) (runs mark.Head ls refl (stands mark.Start Head ls h).more)
first_head (ClaimLine k c) ls h = absurd (let s = (stands mark.Start (ClaimLine k c) ls h).follows in let e = both (eqb k 0) false s in cc)
first_head l ls h = absurd (let s = (stands mark.Start l ls h).follows in cc)

-- lines that may stand in this order, and what is missing behind them, are the lines of a certificate
pub completed : (ls : List Line) → may_stand mark.Start ls ≡ true → ls ++ completion (last_mark mark.Start ls) ≡ lines_of (gathered ls)
completed [] h = refl
completed (l ∷ ls) h = first_head l ls h
