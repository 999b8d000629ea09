-- What each step at the table tells the seat that takes it.
use Rattle.std.specs.Prelude.{◌≡◌, ℕ, ◌<◌, ◌≤◌, ◌⊎◌, ℤ, List, slice_index}
use Rattle.atomic_table.specs.Table.{Me, Step}
use Rattle.board.specs.Layout.{Layout, pieces_of, value_at}
use Rattle.board.specs.declared.view.View.{View}
use Rattle.board.specs.Words.{counter, flag, flag_place, cell_place, word_of}
use Rattle.board.specs.Views.{Knows, IsWorking, drew, found_none, knowing, after_put, next_after}
use Rattle.board.specs.Rule.{AtStep}

abbrev pub Sat : Type 0
Sat = Me ℕ View

-- draw: the number found is the piece, if it is one, and else all are drawn. Each piece below the counter was drawn, and no other
abbrev pub Draws : Layout → List ℤ → Step ℕ → Sat → ℕ → Sat → Type 0
Draws plan values st m found m' =
    (found < pieces_of plan → (m' ≡ (drew m.0 found, m.1)) × (next_after m.0.last ≤ found) × (m.0.allowance ≡ 63 → found ≡ next_after m.0.last) × ¬ (Knows m.0 found) × AtStep plan values m.0 (λ words. counter words ≡ found))
    × (pieces_of plan ≤ found → (m' ≡ (found_none m.0, m.1)) × (m.0.allowance ≡ 63 → pieces_of plan ≤ next_after m.0.last) × AtStep plan values m.0 (λ words. pieces_of plan ≤ counter words))

-- ask about piece j: its flag is set and it is known from now on, or it is not and nothing changes. A known piece is always found
abbrev pub Asks : Layout → List ℤ → Step ℕ → Sat → ℕ → Sat → Type 0
Asks plan values st m found m' = (j : ℕ) → st.word ≡ flag_place j
    → (((found ≡ 0) × (m' ≡ m)) ⊎ ((found ≡ 1) × (m' ≡ (knowing m.0 j, m.1)))) × (Knows m.0 j → found ≡ 1)
    × ((k puts : ℕ) → IsWorking m.0 k puts → IsWorking m'.0 k puts)
    × (found ≡ 0 → AtStep plan values m.0 (λ words. flag words j ≡ 0))

-- look at cell c: its value
abbrev pub Looks : Layout → List ℤ → Step ℕ → Sat → ℕ → Sat → Type 0
Looks plan values st m found m' = (m' ≡ m) × ((c : ℕ) → st.word ≡ cell_place plan c → found ≡ word_of (value_at values c))

-- put: the cell was 0
abbrev pub Puts : Layout → List ℤ → Step ℕ → Sat → ℕ → Sat → Type 0
Puts plan values st m found m' = (m' ≡ (after_put m.0, m.1)) × AtStep plan values m.0 (λ words. slice_index words st.word ≡ 0)

-- finish piece j: it is known from now on
abbrev pub Finishes : Step ℕ → Sat → ℕ → Sat → Type 0
Finishes st m found m' = (j : ℕ) → st.word ≡ flag_place j → m' ≡ (knowing m.0 j, m.1)
