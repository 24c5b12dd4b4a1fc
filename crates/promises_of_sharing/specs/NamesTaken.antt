-- The names that packets taken imported or destroyed, from packet to packet: they are the names that count over calls between resets. Assumes nothing.
use Rattle.std.specs.Prelude.{◌≡◌, refl, List, [], ◌∷◌, ◌++◌, ℕ, take, Err, Ok}
use Rattle.std.proofs.Common.{sym, ap, ◌∙◌, append_assoc, append-nil}
use Rattle.rules.specs.Stream.{packet_of, Frame}
use Rattle.rules.specs.Packets.{Progress, Belongings}
use Rattle.promises_of_sharing.specs.SharedTokens.{TokensGoOn}
use Rattle.promises_of_sharing.specs.NamesKept.{imported_or_destroyed, in_frame, KeepsNamesBut}
use Rattle.promises_of_sharing.specs.NamesOverCalls.{Names}
use Rattle.promises_of_sharing.specs.PacketsTaken.{Taken, Packets, taken_in}

-- the names that some packets imported or destroyed
unfoldable pub names_of : List Taken → List ℕ
names_of [] = []
names_of (x ∷ xs) = imported_or_destroyed x.packet ++ names_of xs

pub names-both : (ys xs : List Taken) → names_of (ys ++ xs) ≡ names_of ys ++ names_of xs
unfolding names_of
names-both [] xs = refl
names-both (y ∷ ys) xs = ap (λ l. imported_or_destroyed y.packet ++ l) (names-both ys xs) ∙ sym (append_assoc (imported_or_destroyed y.packet) (names_of ys) (names_of xs))

-- from packet to packet. Between two a token is bound, too, since one that is spent stays spent
pub record NamesGoOn (xs : List Taken) (before after : Belongings) : Type 0 where
  pub goes_on : TokensGoOn before.tokens after.tokens
  pub keeps : KeepsNamesBut (names_of xs) before after

-- ---- of the packets taken, the names that count

pub names-of-frame : (h : Progress) (b : List ℕ) (f : Frame) → names_of (taken_in h b f) ≡ in_frame b f
unfolding names_of
names-of-frame h b (Ok (op, size)) = append-nil (imported_or_destroyed (packet_of op (take size b)))
names-of-frame h b (Err r) = refl

abbrev pub names_in : Packets → Names
names_in x = record { by_good = names_of x.by_good; in_work = names_of x.in_work }
