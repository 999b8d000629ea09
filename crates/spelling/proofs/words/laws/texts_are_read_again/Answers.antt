use Rattle.spelling.proofs.WordsAgain.{count_again, number_again, symbol_again, form_again, forms_again, span_again, region_again, name_again, type_again}
use Rattle.spelling.proofs.words.laws.texts_are_read_again.Goals as goal

pub returns-clause-counts : goal.returns-clause-counts
returns-clause-counts c = count_again

pub returns-clause-numbers : goal.returns-clause-numbers
returns-clause-numbers c = number_again

pub returns-clause-symbols : goal.returns-clause-symbols
returns-clause-symbols c = symbol_again

pub returns-clause-forms : goal.returns-clause-forms
returns-clause-forms c = form_again

pub returns-clause-lists_of_forms : goal.returns-clause-lists_of_forms
returns-clause-lists_of_forms c = forms_again

pub returns-clause-spans : goal.returns-clause-spans
returns-clause-spans c = span_again

pub returns-clause-regions : goal.returns-clause-regions
returns-clause-regions c = region_again

pub returns-clause-names : goal.returns-clause-names
returns-clause-names c = name_again

pub returns-clause-types : goal.returns-clause-types
returns-clause-types c = type_again
