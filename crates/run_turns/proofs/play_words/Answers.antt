-- `play_words` meets its contract. Assumes nothing.
use Rattle.run_turns.specs.Turns.{playing_words}
use Rattle.run_turns.proofs.play_words.Goals as goal

pub stream_in-stream-requires : goal.stream_in-stream-requires
stream_in-stream-requires c = search playing_words

pub rows_in-kept-requires : goal.rows_in-kept-requires
rows_in-kept-requires c = search playing_words

pub word_to_usize-requires : goal.word_to_usize-requires
word_to_usize-requires c = search playing_words

pub held_in-requires : goal.held_in-requires
held_in-requires c = search playing_words

pub play-requires : goal.play-requires
play-requires c = search playing_words

pub returns : goal.returns
returns c = search playing_words
