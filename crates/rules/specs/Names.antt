-- 02, wish 5, "Two programs, one surface": the names of a resource, and the tokens by which programs reach it.
--
-- A name is a live handle. A resource may have several names; the lowest of them tells which resource it is, so two names are one resource
-- exactly where they have the same lowest name. A token is bound to a resource, by that name, or spent.
use Rattle.std.specs.Prelude.{Bool, true, false, not, ◌&&◌, List, [], ◌∷◌, ℕ, ltb, eqb}
use Rattle.machine.specs.Machine.{pick}
use Rattle.rules.specs.Numbers.{no_name}
use Rattle.rules.specs.Lists.{Found, lookup, index_of, over, pushed}
use Rattle.rules.specs.Lists.Found.{none, found}
use Rattle.rules.specs.declared.Kind.{Kind}
use Rattle.rules.specs.declared.Kind.TheVariants.{Buffer, Texture}
use Rattle.rules.specs.declared.Resource.{Resource}
use Rattle.rules.specs.declared.Token.{Token}

abbrev pub token_of : Token → ℕ
token_of t = t.token

-- "Only textures with one mip and one layer may be exported": no other resource has a token, or a second name
abbrev pub shareable : Kind → Bool
shareable Buffer = false
shareable (Texture s) = eqb s.mips 1 && eqb s.layers 1

-- ---- a resource whose lowest name changes: its names and its tokens follow

abbrev pub renamed : ℕ → ℕ → ℕ → ℕ
renamed old new n = pick (eqb n old) new n

-- the same resource, by one name, with this for its lowest
abbrev pub with_lowest : ℕ → Resource → Resource
with_lowest n r =
    record { handle = r.handle; kind = r.kind; bytes = r.bytes; pitch = r.pitch; backing = r.backing; offset = r.offset; lowest = n }

-- the same resource by another name
abbrev pub under : ℕ → Resource → Resource
under k r =
    record { handle = k; kind = r.kind; bytes = r.bytes; pitch = r.pitch; backing = r.backing; offset = r.offset; lowest = r.lowest }

-- all names, where the resource with lowest name `old` has `new` from now on
unfoldable pub rename : ℕ → ℕ → List Resource → List Resource
rename old new [] = []
rename old new (r ∷ rs) = with_lowest (renamed old new r.lowest) r ∷ rename old new rs

-- all tokens likewise; with no name for `new`, those of the resource are spent
unfoldable pub rebind : ℕ → ℕ → List Token → List Token
rebind old new [] = []
rebind old new (t ∷ ts) = record { name = renamed old new t.name; token = t.token } ∷ rebind old new ts

-- ---- the lowest of some names

abbrev pub lower : ℕ → ℕ → ℕ
lower a b = pick (ltb a b) a b

-- the same where the second may be no name
abbrev pub lower_of : ℕ → ℕ → ℕ
lower_of a b = pick (eqb b no_name) a (lower a b)

-- the lowest name of the resource that was called `low`, of those that are left; no name where none is
unfoldable pub lowest_left : ℕ → List Resource → ℕ
lowest_left low [] = no_name
lowest_left low (r ∷ rs) = pick (eqb r.lowest low) (lower_of r.handle (lowest_left low rs)) (lowest_left low rs)

-- "destroying one name leaves the others": the names left once the resource r has lost one
abbrev pub names_left : Resource → List Resource → List Resource
names_left r left = pick (shareable r.kind) (rename r.lowest (lowest_left r.lowest left) left) left

-- and the tokens: once a resource has no name left, its tokens are bound to none, and so spent
abbrev pub tokens_left : Resource → List Resource → List Token → List Token
tokens_left r left ts = pick (shareable r.kind) (rebind r.lowest (lowest_left r.lowest left) ts) ts

-- "Import makes the handle a second name for the exported resource": the names with one more of r, and the tokens
abbrev pub names_with : ℕ → Resource → List Resource → List Resource
names_with k r rs = rename r.lowest (lower k r.lowest) (pushed rs (under k r))

abbrev pub tokens_with : ℕ → Resource → List Token → List Token
tokens_with k r ts = rebind r.lowest (lower k r.lowest) ts

-- ---- tokens

-- "a token ever bound to another resource or one released": one that was used, and is not bound to the resource called `low`
abbrev pub of_another : Found Token → ℕ → Bool
of_another none low = false
of_another (found t) low = not (eqb t.name low)

abbrev pub is_new : Found Token → Bool
is_new none = true
is_new (found t) = false

-- "the same token on the same resource again changes nothing"
abbrev pub with_token : ℕ → ℕ → List Token → List Token
with_token token low ts = pick (is_new (lookup token_of token ts)) (pushed ts (record { name = low; token = token })) ts

-- a token that is released stays, spent
abbrev pub without_token : ℕ → List Token → List Token
without_token token ts = over (index_of token_of token ts) (record { name = no_name; token = token } ∷ []) ts
