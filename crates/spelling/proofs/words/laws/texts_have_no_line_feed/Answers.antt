use Rattle.spelling.proofs.Feeds.{count_feedless, number_feedless, symbol_feedless, form_feedless, forms_feedless, span_feedless, region_feedless, name_feedless, type_feedless}
use Rattle.spelling.proofs.words.laws.texts_have_no_line_feed.Goals as goal

pub returns-clause-counts : goal.returns-clause-counts
returns-clause-counts c = count_feedless

pub returns-clause-numbers : goal.returns-clause-numbers
returns-clause-numbers c = number_feedless

pub returns-clause-symbols : goal.returns-clause-symbols
returns-clause-symbols c = symbol_feedless

pub returns-clause-forms : goal.returns-clause-forms
returns-clause-forms c = form_feedless

pub returns-clause-lists_of_forms : goal.returns-clause-lists_of_forms
returns-clause-lists_of_forms c = forms_feedless

pub returns-clause-spans : goal.returns-clause-spans
returns-clause-spans c = span_feedless

pub returns-clause-regions : goal.returns-clause-regions
returns-clause-regions c = region_feedless

pub returns-clause-names : goal.returns-clause-names
returns-clause-names c = name_feedless

pub returns-clause-types : goal.returns-clause-types
returns-clause-types c = type_feedless
