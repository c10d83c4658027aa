use Rattle.std.proofs.Common.{◌+◌, ◌*◌, ◌%◌, length, slice_index}
use Rattle.squawk_words.specs.WordHash.{slot_of}
use Rattle.squawk_words.proofs.search.index_in_slot.Goals as goal

pub returns : goal.returns
unfolding slot_of
returns c = λ i.
    slice_index c.args.words.slots.now
    (slice_index c.args.words.slot_starts.now
    (length c.args.ident.now * 32 + c.letter.ensures.value i)
    + (c.letter-2.ensures.value i + 7 * c.letter-3.ensures.value i
    + 5 * (c.letter-4.ensures.value i + c.letter-5.ensures.value i)) % 128)
