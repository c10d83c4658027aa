use Rattle.std.proofs.Common.{◌≡◌, ◌≤◌, ◌++◌, take, drop, length}
use Rattle.squawk_statements.specs.Opening.{key}
use Rattle.squawk_statements.specs.Rows.{without_trivia_if, key_rest}
use Rattle.squawk_statements.proofs.node.key_prefix.Given as goal

-- the key so far, and then what it takes of the kinds that are left
abbrev pub invariant-loop-kind : goal.invariant-loop-kind
invariant-loop-kind l = record {
  key : take l.prefix.len l.prefix.kinds
      ++ key_rest (take l.prefix.len l.prefix.kinds)
      (without_trivia_if l.skip_trivia (drop l.kind-index l.kinds))
      ≡ key (without_trivia_if l.skip_trivia l.kinds);
  within : l.prefix.len ≤ 4;
  size : length l.prefix.kinds ≡ 4;
}
