use Rattle.squawk_words.specs.declared.flags.TheConstants.{FLAGS}
use Rattle.squawk_words.proofs.CategoryLemmas.{categories_union, categories_disjoint}
use Rattle.squawk_words.proofs.FlagsAgree.{HasFlags_FLAGS, sums_FLAGS}
use Rattle.squawk_words.proofs.laws.keywords_have_categories.Goals as goal

pub returns-clause-union : goal.returns-clause-union
returns-clause-union c = categories_union FLAGS HasFlags_FLAGS sums_FLAGS

pub returns-clause-disjoint : goal.returns-clause-disjoint
returns-clause-disjoint c = categories_disjoint FLAGS HasFlags_FLAGS sums_FLAGS
