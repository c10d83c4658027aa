use Rattle.std.proofs.Common.{◌∙◌, ◌≤◌, length, refl, subst}
use Rattle.std.specs.Prelude.{IsUtf8}
use Rattle.squawk_events.specs.Limit.{limit}
use Rattle.squawk_show.proofs.ParseLemmas.{is_parsed}
use Rattle.squawk_show.proofs.program.prepare_summary.Goals as goal

pub returns-clause-summarized : goal.returns-clause-summarized
returns-clause-summarized c =
    let same = c.as_str.ensures.value ∙ c.in_ok-text.ensures.text in
    record {
      parsed = is_parsed c.args.reading _ _ _ _ same c.in_ok-parse.was
          (record {
            within = subst (λ bytes. length bytes ≤ limit) c.in_ok-text.ensures.text
                c.in_ok-text.ensures.within;
            valid = subst IsUtf8 same c.as_str.utf8;
          })
          c.parse_divided.ensures;
      balanced = c.in_ok-parse.ensures.lawful;
      summary = c.in_ok-text-2.ensures;
      no_report = refl;
    }
