-- What `replay` says of a script, in the words of the program.
use Rattle.std.proofs.Common.{◌≡◌, subst, List, [], ℕ}
use Rattle.squawk_cut.specs.PlainTells.{plain_tells}
use Rattle.squawk_replay.specs.Replay.{AreRanges, edit_lines, last_text}
use Rattle.squawk_script.specs.Script.{records}
use Rattle.squawk_show.specs.Run.{IsGoodScript, IsParsed, IsReplayed, lines_of_script}
use Rattle.squawk_show.specs.declared.options.Reading.{Reading}
use Rattle.squawk_tree.specs.Tree.{Tree, IsTree}

-- the tree of a script whose edits were applied, and the lines of the edits
pub is_replayed : (reading : Reading) (script text lines : List ℕ) (tree : Tree)
    → IsGoodScript script → AreRanges [] (records script) → text ≡ last_text (records script)
    → lines ≡ edit_lines (plain_tells reading.strings reading.division) (records script)
    → IsParsed reading text tree → IsTree tree → IsReplayed reading script tree lines
unfolding lines_of_script
is_replayed reading script text lines tree good ranges last lines_are parsed balanced = record {
  accepted = record { good = good; ranges = ranges };
  parsed = subst (λ u. IsParsed reading u tree) last parsed;
  balanced = balanced;
  lines_are = lines_are;
}
