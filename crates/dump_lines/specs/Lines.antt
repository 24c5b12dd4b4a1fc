-- The line of an opcode's row is its pattern with the packet's numbers. Assumes nothing.
use Rattle.std.specs.Prelude.{◌≡◌, List, [], ◌∷◌, ℕ, ◌+◌, ◌≤◌, length}
use Rattle.std.proofs.Math.Path.{refl}
use Rattle.std.proofs.Common.{rules}
use Rattle.rules.specs.Numbers.{create_buffer, create_texture, destroy, dirty_range, copy_buffer, set_target, set_viewport, set_scissor, clear, export_surface, import_surface, release_token}
use Rattle.rules.specs.Layouts.{word, buffer_fields, texture_fields, destroy_fields, dirty_fields, copy_fields, target_fields, export_fields, import_fields, release_fields}
use Rattle.rules.specs.PacketRows.{packet_row}
use Rattle.rules.specs.Text.{ascii}
use Rattle.rules.specs.Dump.{line, line_in, opcode_text}
use Rattle.rules.specs.declared.CreateBuffer.{CreateBuffer}
use Rattle.rules.specs.declared.CreateTexture.{CreateTexture}
use Rattle.rules.specs.declared.DestroyResource.{DestroyResource}
use Rattle.rules.specs.declared.DirtyRange.{DirtyRange}
use Rattle.rules.specs.declared.CopyBuffer.{CopyBuffer}
use Rattle.rules.specs.declared.SetTarget.{SetTarget}
use Rattle.rules.specs.declared.ExportSurface.{ExportSurface}
use Rattle.rules.specs.declared.ImportSurface.{ImportSurface}
use Rattle.rules.specs.declared.ReleaseToken.{ReleaseToken}
use Rattle.text_numbers.specs.Writing.{Puts}
use Rattle.text_filling.specs.Filling.{filled, piece, takes}

-- two texts that are the same: where there is room for one there is room for the other, and writing one is writing the other
module _ (text text' : List ℕ) (same : text ≡ text') (at : ℕ) (b : List ℕ) where
  pub same-room : at + length text' ≤ length b → at + length text ≤ length b
  same-room h = rw same h

  pub same-put : (end : ℕ) (m : List ℕ) → Puts at text b end m → Puts at text' b end m
  same-put end m p = rw same at p

module _ (b : List ℕ) (offset size : ℕ) where
  pub buffer-line : (f : CreateBuffer) → f ≡ buffer_fields b → (n1 n2 n3 : ℕ) → n1 ≡ f.handle → n2 ≡ f.backing → n3 ≡ f.offset
      → filled (ascii "0x# CreateBuffer size_bytes=% handle=% size=% backing_id=% backing_offset=%\n") (offset ∷ size ∷ n1 ∷ f.size ∷ n2 ∷ n3 ∷ []) ≡ line_in (packet_row create_buffer) offset create_buffer size b
  unfolding filled piece takes line packet_row buffer_fields
  buffer-line f e n1 n2 n3 e1 e2 e3 = rw (e1, e2, e3, e)

  pub texture-line : (f : CreateTexture) → f ≡ texture_fields b → (n1 n2 n3 n4 n5 n6 n7 n8 n9 : ℕ) → n1 ≡ f.handle → n2 ≡ f.shape.format → n3 ≡ f.shape.width → n4 ≡ f.shape.height → n5 ≡ f.shape.mips → n6 ≡ f.shape.layers → n7 ≡ f.pitch → n8 ≡ f.backing → n9 ≡ f.offset
      → filled (ascii "0x# CreateTexture size_bytes=% handle=% format=% width=% height=% mips=% layers=% pitch=% backing_id=% backing_offset=%\n") (offset ∷ size ∷ n1 ∷ n2 ∷ n3 ∷ n4 ∷ n5 ∷ n6 ∷ n7 ∷ n8 ∷ n9 ∷ []) ≡ line_in (packet_row create_texture) offset create_texture size b
  unfolding filled piece takes line packet_row texture_fields
  texture-line f e n1 n2 n3 n4 n5 n6 n7 n8 n9 e1 e2 e3 e4 e5 e6 e7 e8 e9 = rw (e1, e2, e3, e4, e5, e6, e7, e8, e9, e)

  pub destroy-line : (f : DestroyResource) → f ≡ destroy_fields b → (n1 : ℕ) → n1 ≡ f.handle
      → filled (ascii "0x# Destroy size_bytes=% handle=%\n") (offset ∷ size ∷ n1 ∷ []) ≡ line_in (packet_row destroy) offset destroy size b
  unfolding filled piece takes line packet_row destroy_fields
  destroy-line f e n1 e1 = rw (e1, e)

  pub dirty-line : (f : DirtyRange) → f ≡ dirty_fields b → (n1 : ℕ) → n1 ≡ f.handle
      → filled (ascii "0x# DirtyRange size_bytes=% handle=% offset=% size=%\n") (offset ∷ size ∷ n1 ∷ f.offset ∷ f.size ∷ []) ≡ line_in (packet_row dirty_range) offset dirty_range size b
  unfolding filled piece takes line packet_row dirty_fields
  dirty-line f e n1 e1 = rw (e1, e)

  pub copy_line : (f : CopyBuffer) → f ≡ copy_fields b → (n1 n2 n3 : ℕ) → n1 ≡ f.dst → n2 ≡ f.src → n3 ≡ f.flags
      → filled (ascii "0x# CopyBuffer size_bytes=% dst=% src=% dst_offset=% src_offset=% size=% flags=%\n") (offset ∷ size ∷ n1 ∷ n2 ∷ f.dstoffset ∷ f.srcoffset ∷ f.size ∷ n3 ∷ []) ≡ line_in (packet_row copy_buffer) offset copy_buffer size b
  unfolding filled piece takes line packet_row copy_fields
  copy_line f e n1 n2 n3 e1 e2 e3 = rw (e1, e2, e3, e)

  pub target-line : (f : SetTarget) → f ≡ target_fields b → (n1 : ℕ) → n1 ≡ f.handle
      → filled (ascii "0x# Target size_bytes=% handle=%\n") (offset ∷ size ∷ n1 ∷ []) ≡ line_in (packet_row set_target) offset set_target size b
  unfolding filled piece takes line packet_row target_fields
  target-line f e n1 e1 = rw (e1, e)

  pub viewport-line : (n1 n2 n3 n4 n5 n6 : ℕ) → n1 ≡ word b 8 → n2 ≡ word b 12 → n3 ≡ word b 16 → n4 ≡ word b 20 → n5 ≡ word b 24 → n6 ≡ word b 28
      → filled (ascii "0x# Viewport size_bytes=% x=% y=% width=% height=% near=% far=%\n") (offset ∷ size ∷ n1 ∷ n2 ∷ n3 ∷ n4 ∷ n5 ∷ n6 ∷ []) ≡ line_in (packet_row set_viewport) offset set_viewport size b
  unfolding filled piece takes line packet_row
  viewport-line n1 n2 n3 n4 n5 n6 e1 e2 e3 e4 e5 e6 = rw (e1, e2, e3, e4, e5, e6)

  pub scissor-line : (n1 n2 n3 n4 : ℕ) → n1 ≡ word b 8 → n2 ≡ word b 12 → n3 ≡ word b 16 → n4 ≡ word b 20
      → filled (ascii "0x# Scissor size_bytes=% x=~ y=~ width=~ height=~\n") (offset ∷ size ∷ n1 ∷ n2 ∷ n3 ∷ n4 ∷ []) ≡ line_in (packet_row set_scissor) offset set_scissor size b
  unfolding filled piece takes line packet_row
  scissor-line n1 n2 n3 n4 e1 e2 e3 e4 = rw (e1, e2, e3, e4)

  pub clear-line : (n1 n2 n3 n4 n5 n6 n7 : ℕ) → n1 ≡ word b 8 → n2 ≡ word b 12 → n3 ≡ word b 16 → n4 ≡ word b 20 → n5 ≡ word b 24 → n6 ≡ word b 28 → n7 ≡ word b 32
      → filled (ascii "0x# Clear size_bytes=% flags=% red=% green=% blue=% alpha=% depth=% stencil=%\n") (offset ∷ size ∷ n1 ∷ n2 ∷ n3 ∷ n4 ∷ n5 ∷ n6 ∷ n7 ∷ []) ≡ line_in (packet_row clear) offset clear size b
  unfolding filled piece takes line packet_row
  clear-line n1 n2 n3 n4 n5 n6 n7 e1 e2 e3 e4 e5 e6 e7 = rw (e1, e2, e3, e4, e5, e6, e7)

  pub export-line : (f : ExportSurface) → f ≡ export_fields b → (n1 : ℕ) → n1 ≡ f.handle
      → filled (ascii "0x# Export size_bytes=% handle=% token=%\n") (offset ∷ size ∷ n1 ∷ f.token ∷ []) ≡ line_in (packet_row export_surface) offset export_surface size b
  unfolding filled piece takes line packet_row export_fields
  export-line f e n1 e1 = rw (e1, e)

  pub import-line : (f : ImportSurface) → f ≡ import_fields b → (n1 : ℕ) → n1 ≡ f.handle
      → filled (ascii "0x# Import size_bytes=% handle=% token=%\n") (offset ∷ size ∷ n1 ∷ f.token ∷ []) ≡ line_in (packet_row import_surface) offset import_surface size b
  unfolding filled piece takes line packet_row import_fields
  import-line f e n1 e1 = rw (e1, e)

  pub release-line : (f : ReleaseToken) → f ≡ release_fields b
      → filled (ascii "0x# Release size_bytes=% token=%\n") (offset ∷ size ∷ f.token ∷ []) ≡ line_in (packet_row release_token) offset release_token size b
  unfolding filled piece takes line packet_row release_fields
  release-line f e = rw e

module _ (offset size opcode : ℕ) where
  pub unknown-line : filled (ascii "0x# UNKNOWN size_bytes=% opcode=%\n") (offset ∷ size ∷ opcode ∷ []) ≡ line offset "UNKNOWN" size (opcode_text opcode)
  unfolding filled piece takes line
  unknown-line = refl

  pub stopped-line : filled (ascii "0x# STOPPED size_bytes=% opcode=%\n") (offset ∷ size ∷ opcode ∷ []) ≡ line offset "STOPPED" size (opcode_text opcode)
  unfolding filled piece takes line
  stopped-line = refl

pub ruleset writing_buffer = (same-room, same-put, buffer-line, rules)

pub ruleset writing_texture = (same-room, same-put, texture-line, rules)

pub ruleset writing_destroy = (same-room, same-put, destroy-line, rules)

pub ruleset writing_dirty = (same-room, same-put, dirty-line, rules)

pub ruleset writing_copy = (same-room, same-put, copy_line, rules)

pub ruleset writing_target = (same-room, same-put, target-line, rules)

pub ruleset writing_viewport = (same-room, same-put, viewport-line, rules)

pub ruleset writing_scissor = (same-room, same-put, scissor-line, rules)

pub ruleset writing_clear = (same-room, same-put, clear-line, rules)

pub ruleset writing_export = (same-room, same-put, export-line, rules)

pub ruleset writing_import = (same-room, same-put, import-line, rules)

pub ruleset writing_release = (same-room, same-put, release-line, rules)

pub ruleset writing_unknown = (same-room, same-put, unknown-line, rules)

pub ruleset writing_stopped = (same-room, same-put, stopped-line, rules)
