-- What the words name.
use Rattle.std.proofs.Common.{◌≡◌, ◌∙◌, ◌⊎◌, inl, inr, refl, sym, Bool, List, Option, None, Some, option_and_then, option_map, true, codes, arith}
use Rattle.clap.specs.declared.error.Error.{Error}
use Rattle.clap.specs.declared.error.kind.ErrorKind.TheVariants.{OutOfMemory, ValueValidation}
use Rattle.clap.specs.declared.parser.matches.Found.{Found}
use Rattle.clap.specs.Words.{Text, first_value, is_simple, is_simple_and_free, kind_of, matched_of, raw_values, rows_of}
use Rattle.clap.proofs.OnLiterals.{clap_on_literals}
use Rattle.clap.proofs.WalkLemmas.{first_value-rows, raw_values-rows}
use Rattle.commands.specs.Asked.{Asked, AskedWay, Plain}
use Rattle.commands.specs.Line.{all_three, both as both_words, check_in, compare_in, compile_in, draw_in, evaluations_in, explain_in, format_in, is_set, line, by_workers, picture_in, plain_in, replay_in, run_in, stores_in, to_compare, to_compile, to_draw, to_explain, to_format, with_order, workers_in}
use Rattle.commands.specs.Line.{FailsFor, asked, crop_in, rect_in, side_in, tiles_in, to_crop, to_rect, to_tiles}

pub picture_as : (way : AskedWay) (f : Found) → picture_in way (rows_of f) ≡ all_three way (first_value f (codes "ALG")) (first_value f (codes "IN")) (first_value f (codes "OUT"))
picture_as way f = rw (first_value-rows f (codes "ALG"), first_value-rows f (codes "IN"), first_value-rows f (codes "OUT")) refl

pub format_as : (f : Found) → format_in (rows_of f) ≡ to_format (first_value f (codes "ALG")) (first_value f (codes "OUT"))
format_as f = rw (first_value-rows f (codes "ALG"), first_value-rows f (codes "OUT")) refl

pub explain_as : (f : Found) → explain_in (rows_of f) ≡ option_and_then to_explain (first_value f (codes "CODE"))
explain_as f = rw (first_value-rows f (codes "CODE")) refl

pub compile_as : (f : Found) → compile_in (rows_of f) ≡ to_compile (first_value f (codes "ALG")) (first_value f (codes "SCHED")) (first_value f (codes "PLAN"))
compile_as f = rw (first_value-rows f (codes "ALG"), first_value-rows f (codes "SCHED"), first_value-rows f (codes "PLAN")) refl

pub compare_as : (f : Found) → compare_in (rows_of f)
    ≡ to_compare (is_set (first_value f (codes "by-first"))) (first_value f (codes "ALG")) (first_value f (codes "IN")) (option_map raw_values (matched_of f (codes "SCHED")))
compare_as f = rw (first_value-rows f (codes "by-first"), first_value-rows f (codes "ALG"), first_value-rows f (codes "IN"), raw_values-rows f (codes "SCHED")) refl

pub nothing_to_compare : (by_first : Bool) (algorithm input : Option Text) → to_compare by_first algorithm input None ≡ None
nothing_to_compare by_first None input = refl
nothing_to_compare by_first (Some a) None = refl
nothing_to_compare by_first (Some a) (Some i) = refl

pub plain_as : (f : Found) → plain_in (rows_of f) ≡ option_and_then (λ most. picture_in (Plain most) (rows_of f)) (evaluations_in (first_value f (codes "at-most")))
plain_as f = rw (first_value-rows f (codes "at-most")) refl

pub run_as : (f : Found) → run_in (rows_of f)
    ≡ option_and_then (λ plan. by_workers plan (workers_in (first_value f (codes "workers"))) (stores_in (first_value f (codes "at-most"))) (rows_of f)) (first_value f (codes "PLAN"))
run_as f = rw (first_value-rows f (codes "PLAN"), first_value-rows f (codes "workers"), first_value-rows f (codes "at-most")) refl

pub draw_as : (f : Found) → draw_in (rows_of f) ≡ option_and_then (λ check. to_draw (first_value f (codes "order")) check (first_value f (codes "OUT"))) (check_in (rows_of f))
draw_as f = rw (first_value-rows f (codes "order"), first_value-rows f (codes "OUT")) refl

pub check_as : (f : Found) → check_in (rows_of f) ≡ both_words (first_value f (codes "ALG")) (first_value f (codes "PLAN"))
check_as f = rw (first_value-rows f (codes "ALG"), first_value-rows f (codes "PLAN")) refl

pub replay_as : (f : Found) → replay_in (rows_of f) ≡ option_and_then (λ check. with_order check (first_value f (codes "IN")) (first_value f (codes "ORDER"))) (check_in (rows_of f))
replay_as f = rw (first_value-rows f (codes "IN"), first_value-rows f (codes "ORDER")) refl

pub rect_as : (f : Found) → rect_in (rows_of f)
    ≡ to_rect (side_in (first_value f (codes "X"))) (side_in (first_value f (codes "Y"))) (side_in (first_value f (codes "W"))) (side_in (first_value f (codes "H")))
rect_as f = rw (first_value-rows f (codes "X"), first_value-rows f (codes "Y"), first_value-rows f (codes "W"), first_value-rows f (codes "H")) refl

pub crop_as : (f : Found) → crop_in (rows_of f) ≡ to_crop (rect_in (rows_of f)) (first_value f (codes "ALG")) (first_value f (codes "OUT"))
crop_as f = rw (first_value-rows f (codes "ALG"), first_value-rows f (codes "OUT")) refl

pub tiles_as : (f : Found) → tiles_in (rows_of f)
    ≡ to_tiles (side_in (first_value f (codes "TW"))) (side_in (first_value f (codes "TH"))) (first_value f (codes "ALG")) (first_value f (codes "DIR"))
tiles_as f = rw (first_value-rows f (codes "TW"), first_value-rows f (codes "TH"), first_value-rows f (codes "ALG"), first_value-rows f (codes "DIR")) refl

-- a pair is there where its two parts are
pub both : {A B : Type 0} (o : Option (A × B)) (a : A) (b : B) → Some a ≡ option_map (λ p. p.0) o → Some b ≡ option_map (λ p. p.1) o → o ≡ Some (a, b)
both None a b e f = absurd (cc e)
both (Some p) a b e f = grind (arith, e, f)

pub line_is_free : is_simple_and_free line ≡ true
unfolding clap_on_literals
line_is_free = refl

pub line_is_simple : is_simple line ≡ true
unfolding clap_on_literals
line_is_simple = refl

-- why words ask for no command, of which so much is found
pub fails_for : (words : List Text) (error : Error) (found : Option Asked) → found ≡ asked words
    → (kind_of error ≡ OutOfMemory) ⊎ ((kind_of error ≡ ValueValidation) × (found ≡ None)) → FailsFor words error
fails_for words error found is (inl memory) = inl (inl memory)
fails_for words error found is (inr (kind, none)) = inr (kind, sym is ∙ none)
