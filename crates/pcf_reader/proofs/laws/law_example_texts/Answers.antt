use Rattle.pcf_reader.proofs.Examples.{example_words, example_operators, example_applications, example_types, example_lines}
use Rattle.pcf_reader.proofs.laws.law_example_texts.Goals as goal

pub returns-clause-words : goal.returns-clause-words
returns-clause-words c = example_words

pub returns-clause-operators : goal.returns-clause-operators
returns-clause-operators c = example_operators

pub returns-clause-applications : goal.returns-clause-applications
returns-clause-applications c = example_applications

pub returns-clause-types : goal.returns-clause-types
returns-clause-types c = example_types

pub returns-clause-lines : goal.returns-clause-lines
returns-clause-lines c = example_lines
