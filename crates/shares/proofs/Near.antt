-- Lines `let` before fetch lines that come to near numbers.
use Rattle.std.proofs.Common.{◌≡◌, ℕ, List, [], ◌∷◌, length, map, true, ◌<◌, ◌≤◌, ◌+◌, ◌^◌, suc, zero, arith, refl, sym, ap, ◌∙◌, subst, get_or, drop, drop-cons}
use Rattle.std.specs.Prelude.{◌==◌, All, Some, slice_get}
use Rattle.std.specs.List.{AllByRecursion, list_all}
use Rattle.std.proofs.lemmas.List.Elements.{All-from_recursion}
use Rattle.lin.specs.Forms.{IsWithin}
use Rattle.plan.specs.Plan.{Group, Plan}
use Rattle.plan.specs.Lines.{body_line}
use Rattle.plan.specs.Certificate.Certificate.{Certificate}
use Rattle.plan.specs.Symbols.{Symbols, bind}
use Rattle.plan.specs.Certificate.Cells.{Piece, grid_symbols, pieces}
use Rattle.soundness.specs.Around.{picked}
use Rattle.soundness.proofs.Refines.{and_parts, eq_true}
use Rattle.shares.specs.declared.seats.Seat.{Seat}
use Rattle.shares.specs.Seats.{pieces_of}
use Rattle.shares.specs.declared.lets.Naming.{Naming as NamingHeld}
use Rattle.shares.specs.FetchLines.{FetchLine, LetsAreNear, LineIsNear, fetch_lines, plan_fetch_lines}
use Rattle.shares.specs.Noted.{told_line}
use Rattle.shares.specs.Read.{IsTold}
use Rattle.shares.specs.Shared.{AreShared}
use Rattle.shares.proofs.Groups.{all_at_place}
use Rattle.shares.proofs.Totals.{IsOpenIn, no_lets, of_group_lines, open_lines}
use Rattle.shares.specs.Lets.{Naming, AreNear, named, naming_of, namings_of}

-- ---- plans without such lines

no_more : (ls : List Naming) (s : Symbols) → (length ls == 0) ≡ true → AreNear ls s
no_more [] s h = tt
no_more (l ∷ ls) s h = let none = eq_true (length (l ∷ ls)) 0 h in absurd (omega (arith, none))

each_plain : (js : List Piece) (xs : List FetchLine) → list_all (λ x. length x.lets == 0) xs ≡ true → AllByRecursion (LineIsNear js) xs
each_plain js [] h = tt
each_plain js (x ∷ xs) h =
    let k = and_parts (length x.lets == 0) (list_all (λ y. length y.lets == 0) xs) h in
    ((λ i d less same. no_more x.lets (grid_symbols (get_or js i d).at) k.0), each_plain js xs k.1)

pub plain_near : (p : Plan) → list_all (λ x. length x.lets == 0) (plan_fetch_lines p) ≡ true → LetsAreNear p
plain_near p h = All-from_recursion (LineIsNear (pieces p)) (plan_fetch_lines p) (each_plain (pieces p) (plan_fetch_lines p) h)

-- ---- one line more

module _ (xs : List NamingHeld) (k : ℕ) (d : NamingHeld) (less : k < length xs) (is : d ≡ get_or xs k d) (s : Symbols) where
  abbrev later : Symbols
  later = bind s d.symbol (picked d.pick d.forms.now s) true

  first : namings_of (drop k xs) ≡ naming_of d ∷ namings_of (drop (k + 1) xs)
  first =
      let one : suc k ≡ k + 1 = omega arith in
      ap namings_of (drop-cons xs k d less) ∙ ap (λ (y : NamingHeld). naming_of y ∷ namings_of (drop (suc k) xs)) (sym is) ∙ ap (λ (n : ℕ). naming_of d ∷ namings_of (drop n xs)) one

  pub named_next : named (namings_of (drop k xs)) s ≡ named (namings_of (drop (k + 1) xs)) later
  named_next = ap (λ (ls : List Naming). named ls s) first

  pub near_next : AreNear (namings_of (drop k xs)) s → IsWithin (2 ^ 20) (picked d.pick d.forms.now s) × AreNear (namings_of (drop (k + 1) xs)) later
  near_next h = subst (λ (ls : List Naming). AreNear ls s) first h

  pub near_before : IsWithin (2 ^ 20) (picked d.pick d.forms.now s) → AreNear (namings_of (drop (k + 1) xs)) later → AreNear (namings_of (drop k xs)) s
  near_before h rest = subst (λ (ls : List Naming). AreNear ls s) (sym first) (h, rest)

pub named_end : (xs : List NamingHeld) (k : ℕ) (s : Symbols) → length xs ≤ k → named (namings_of (drop k xs)) s ≡ s
named_end [] zero s h = refl
named_end [] (suc k) s h = refl
named_end (x ∷ xs) zero s h = absurd (omega (arith, h))
named_end (x ∷ xs) (suc k) s h = named_end xs k s (omega (arith, h))

pub near_end : (xs : List NamingHeld) (k : ℕ) (s : Symbols) → length xs ≤ k → AreNear (namings_of (drop k xs)) s
near_end [] zero s h = tt
near_end [] (suc k) s h = tt
near_end (x ∷ xs) zero s h = absurd (omega (arith, h))
near_end (x ∷ xs) (suc k) s h = near_end xs k s (omega (arith, h))

-- ---- the lines of a piece's group can be read there

module _ (p : Plan) (i : ℕ) (j : Piece) (at : slice_get (pieces p) i ≡ Some j) where
  each_told : (xs : List FetchLine) → AllByRecursion (IsOpenIn p j.group) xs → AllByRecursion (LineIsNear (pieces p)) xs → AllByRecursion (IsTold p (grid_symbols j.at)) (map told_line xs)
  each_told [] h k = tt
  each_told (x ∷ xs) h k = (
    record {
      stands = record { region = h.0.0.region; lets = h.0.0.lets };
      near = all_at_place (λ y. y.group ≡ x.group → AreNear x.lets (grid_symbols y.at)) (pieces p) i j at k.0 (sym h.0.1);
    },
    each_told xs h.1 k.1,
  )

  pub lines_told : (c : Certificate) → AreShared p c → LetsAreNear p → (g : Group) → slice_get p.groups j.group ≡ Some g →
      All (IsTold p (grid_symbols j.at)) (map told_line (fetch_lines j.group [] g.body (body_line p j.group)))
  lines_told c shared near g here =
      let xs = fetch_lines j.group [] g.body (body_line p j.group) in
      All-from_recursion (IsTold p (grid_symbols j.at)) (map told_line xs)
      (each_told xs (open_lines p j.group [] g.body (body_line p j.group) no_lets (shared.groups j.group g here).body) (of_group_lines p (LineIsNear (pieces p)) j.group g here near))

-- ---- a line and the pieces as code has them

pub near_pieces : (x : FetchLine) (xs : List Seat) → ((i : ℕ) (s : Seat) → slice_get xs i ≡ Some s → s.group ≡ x.group → AreNear x.lets (grid_symbols s.at.items)) → LineIsNear (pieces_of xs) x
near_pieces x xs h = All-from_recursion (λ (j : Piece). j.group ≡ x.group → AreNear x.lets (grid_symbols j.at)) (pieces_of xs) (each_near x xs h)
  where
    each_near : (x : FetchLine) (xs : List Seat) → ((i : ℕ) (s : Seat) → slice_get xs i ≡ Some s → s.group ≡ x.group → AreNear x.lets (grid_symbols s.at.items)) → AllByRecursion (λ (j : Piece). j.group ≡ x.group → AreNear x.lets (grid_symbols j.at)) (pieces_of xs)
    each_near x [] h = tt
    each_near x (s ∷ ss) h = (h 0 s refl, each_near x ss (λ i t e. h (suc i) t e))
