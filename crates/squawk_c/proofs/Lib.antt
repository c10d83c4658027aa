mod CutSteps
mod ParseLemmas
mod PutSteps
