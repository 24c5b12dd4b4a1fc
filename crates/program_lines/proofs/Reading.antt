-- What a read through a limit took is the front of what the reader had. Assumes nothing.
use Rattle.std.proofs.Common.{◌≡◌, ℕ, List, [], length, take, subst, sym, IfSome, None, Some, Option}
use Rattle.std.proofs.Math.Seq.{take-append_seam}
use Rattle.std.specs.Io.{StartsWith, appended_bytes}
use Rattle.std.specs.Io.KnownBytes.{Consumes}
use Rattle.std.specs.Option.{option_map}

front-taken : (most : ℕ) (old new : Option (List ℕ)) (bytes : List ℕ) → Consumes (option_map (take most) old) new bytes
    → IfSome old (λ xs. StartsWith (take most xs) bytes)
front-taken most None new bytes h = tt
front-taken most (Some xs) None bytes h = absurd h
front-taken most (Some xs) (Some ys) bytes h =
    let P : List ℕ → Type 0 = λ l. take (length bytes) l ≡ bytes in subst P (sym h) (take-append_seam bytes ys)

pub limited-front : {R : Type 0} (remaining : R → Option (List ℕ)) (reader inner : R) (most limit : ℕ) (new : Option (List ℕ)) (first bytes : List ℕ)
    → inner ≡ reader → limit ≡ most → first ≡ [] → Consumes (option_map (take limit) (remaining inner)) new (appended_bytes first bytes)
    → IfSome (remaining reader) (λ xs. StartsWith (take most xs) bytes)
limited-front {R = R} remaining reader inner most limit new first bytes same_reader same_limit empty h =
    let Within : ℕ → Type 0 = λ n. Consumes (option_map (take n) (remaining inner)) new (appended_bytes first bytes) in
    let Of : R → Type 0 = λ r. Consumes (option_map (take most) (remaining r)) new (appended_bytes first bytes) in
    let Taken : List ℕ → Type 0 = λ l. Consumes (option_map (take most) (remaining reader)) new (appended_bytes l bytes) in
    front-taken most (remaining reader) new bytes (subst Taken empty (subst Of same_reader (subst Within same_limit h)))
