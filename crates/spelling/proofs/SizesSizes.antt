-- What is written for a size is read as that size, and has no line feed.
use Rattle.std.proofs.Common.{◌≡◌, ℕ, ◌^◌, ◌<◌, true, List, ◌++◌, refl, arith}
use Rattle.std.specs.Prelude.{slice_index, pos}
use Rattle.std.specs.Fmt.{decimal}
use Rattle.std.proofs.lemmas.Bool.{ltb-true}
use Rattle.tree.specs.Token.Spelling.{is_digit}
use Rattle.spelling.specs.Words.Spelling.{count_text, counts_text}
use Rattle.spelling.specs.Words.Reading.{is_form_byte, no_byte, symbol_from}
use Rattle.spelling.specs.Words.Laws.{ReadsAgain, IsFeedless}
use Rattle.spelling.proofs.Runs.{decimal_first, digit_of_form}
use Rattle.spelling.proofs.WordsAgain.{symbol_again, bracketed_again}
use Rattle.spelling.proofs.Feeds.{number_feedless, bracketed_feedless}
use Rattle.spelling.specs.Sizes.Sizes.{fits_size, fits_sizes, size_from, sizes_from}

pub size_again : ReadsAgain fits_size is_digit count_text size_from
unfolding size_from symbol_from
size_again n rest fits h = symbol_again n rest fits h

pub size_first : (n : ℕ) (rest : List ℕ) → fits_size n ≡ true → is_form_byte (slice_index (count_text n ++ rest) 0) ≡ true
size_first n rest fits =
    let lt : n < 2 ^ 63 = ltb-true n (2 ^ 63) fits in
    digit_of_form (slice_index (decimal n ++ rest) 0) (decimal_first n rest (omega arith))

pub sizes_again : ReadsAgain fits_sizes no_byte counts_text sizes_from
unfolding counts_text
sizes_again sizes rest fits h = bracketed_again 44 fits_size is_digit count_text size_from size_again refl size_first sizes rest fits refl refl

pub size_feedless : IsFeedless fits_size count_text
size_feedless n fits = number_feedless (pos n) fits

pub sizes_feedless : IsFeedless fits_sizes counts_text
unfolding counts_text
sizes_feedless sizes fits = bracketed_feedless 44 fits_size count_text size_feedless refl sizes fits
