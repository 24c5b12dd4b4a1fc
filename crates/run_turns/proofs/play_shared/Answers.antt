-- `play_shared` meets its contract. Assumes nothing.
use Rattle.run_turns.specs.Turns.{playing_shared}
use Rattle.run_turns.proofs.play_shared.Goals as goal

pub play_words-run-requires : goal.play_words-run-requires
play_words-run-requires c = search playing_shared

pub stream_end-end-requires : goal.stream_end-end-requires
stream_end-end-requires c = search playing_shared

pub share-after-requires : goal.share-after-requires
share-after-requires c = search playing_shared

pub returns-in-Some : goal.returns-in-Some
returns-in-Some c = search playing_shared

pub returns-in-None : goal.returns-in-None
returns-in-None c = search playing_shared
