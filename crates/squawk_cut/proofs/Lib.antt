mod PlainTokens
mod LexedLemmas
mod KindSteps
mod RootChild
mod OnlyChild
mod PlainChildren
mod JoinSteps
mod TokenSteps
