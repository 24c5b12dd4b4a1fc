-- Two submissions that hold the same are still the same after a packet. Assumes nothing.
use Rattle.std.specs.Prelude.{◌≡◌, List, ℕ, take, Err, Ok}
use Rattle.std.proofs.Math.Path.{refl, ap}
use Rattle.std.proofs.Common.{◌∙◌}
use Rattle.std.proofs.Math.Dec.{eqb}
use Rattle.machine.specs.Machine.{pick}
use Rattle.rules.specs.Lists.Found.{found}
use Rattle.rules.specs.Names.{lower}
use Rattle.rules.specs.StatePackets.{bad_viewport, bad_clear}
use Rattle.rules.specs.Stream.{frame_of, packet_of, Frame}
use Rattle.rules.specs.Packets.{live, recorded, on_buffer_packet, on_texture_packet, on_viewport_packet, on_clear_packet, bound, apply, Progress, target_after, tokens_after, pass, pass_frame, take_packet}
use Rattle.rules.specs.declared.Entry.{Entry}
use Rattle.rules.specs.declared.Record.{Record}
use Rattle.rules.specs.declared.Packet.{Packet}
use Rattle.rules.specs.declared.Packet.TheVariants.{Buffer, Texture, Destroy, Dirty, Copy, Target, Viewport, Scissor, Clear, Export, Import, Release, NotANumber, Unknown}
use Rattle.rules.specs.declared.Refusal.TheVariants.{BadState}
use Rattle.promises_of_packets.specs.SoundNames.{bound-is}
use Rattle.promises_of_packets.specs.Held.{SoundProgress}
use Rattle.promises_of_same_desks.specs.Maps.{same-rebound, same-with-token}
use Rattle.promises_of_same_desks.proofs.Maps.{same-without-token}
use Rattle.promises_of_same_desks.specs.Packets.{Of, SameHeld, SamePassed, bound-same, copy-both, create-both, destroy-both, dirty-both, export-both, import-both, refuse-both, release-both, scissor-both, target-both}
use Rattle.promises_of_same_desks.proofs.Packets.{few-names, few-tokens, keeps, more, names-left-same, names-with-same, refuses, stores, tokens-left-same}

-- ---- one packet, whatever it is

module _ (es : List Entry) (g h : Progress) (s : SoundProgress es g) (t : SoundProgress es h) (d : SameHeld g h) where
  -- ---- an import

  handed : (c : Record) → SameHeld (record { holdings = recorded c g.holdings; target = g.target; tokens = g.tokens }) (record { holdings = recorded c h.holdings; target = h.target; tokens = h.tokens })
  handed c = record { resources = d.resources; records = (more es g h s t d) c; target = d.target; tokens = d.tokens }

  pub pass_same : (p : Packet) → SamePassed (pass es g p) (pass es h p)
  unfolding pass apply target_after tokens_after on_buffer_packet on_texture_packet on_viewport_packet on_clear_packet
  pass_same (Buffer c) =
      create-both ((Of es g h s t d) (Buffer c)) g.holdings h.holdings (refuses es g h s t d) d.resources d.records es (few-names es g h s t d)
      (λ r. record { verdict = refl; held = record { resources = (stores es g h s t d) r; records = d.records; target = d.target; tokens = d.tokens } })
      (λ r c. record { verdict = refl; held = record { resources = (stores es g h s t d) r; records = (more es g h s t d) c; target = d.target; tokens = d.tokens } })
      _ _
  pass_same (Texture c) =
      create-both ((Of es g h s t d) (Texture c)) g.holdings h.holdings (refuses es g h s t d) d.resources d.records es (few-names es g h s t d)
      (λ r. record { verdict = refl; held = record { resources = (stores es g h s t d) r; records = d.records; target = d.target; tokens = d.tokens } })
      (λ r c. record { verdict = refl; held = record { resources = (stores es g h s t d) r; records = (more es g h s t d) c; target = d.target; tokens = d.tokens } })
      _ _
  pass_same (Destroy c) =
      destroy-both ((Of es g h s t d) (Destroy c)) g.holdings h.holdings (refuses es g h s t d) d.resources d.records c (λ r e.
      let f : live c.handle g.holdings ≡ found r = d.resources c.handle ∙ e in
      rw (f, e) (record {
        verdict = refl;
        held = record {
          resources = (names-left-same es g h s t d) c.handle r e;
          records = d.records;
          target = ap (λ n. pick (eqb c.handle n) 0 n) d.target;
          tokens = (tokens-left-same es g h s t d) c.handle r e;
        };
      }))
  pass_same (Dirty c) =
      dirty-both ((Of es g h s t d) (Dirty c)) g.holdings h.holdings (refuses es g h s t d) d.resources d.records es (keeps es g h s t d)
      (λ k. record { verdict = refl; held = handed k }) c
  pass_same (Copy c) =
      copy-both ((Of es g h s t d) (Copy c)) g.holdings h.holdings (refuses es g h s t d) d.resources d.records es (keeps es g h s t d)
      (λ k. record { verdict = refl; held = handed k }) c
  pass_same (Target c) =
      target-both ((Of es g h s t d) (Target c)) g.holdings h.holdings (refuses es g h s t d) d.resources d.records c
      (record { verdict = refl; held = record { resources = d.resources; records = d.records; target = refl; tokens = d.tokens } })
  pass_same (Viewport v) = refuse-both ((Of es g h s t d) (Viewport v)) g.holdings h.holdings (refuses es g h s t d) BadState (bad_viewport v) _ _ _ refl (keeps es g h s t d)
  pass_same (Scissor c) =
      scissor-both ((Of es g h s t d) (Scissor c)) g.holdings h.holdings (refuses es g h s t d) d.resources d.records g.target h.target c d.target
      (λ k. record { verdict = refl; held = handed k })
  pass_same (Clear c) = refuse-both ((Of es g h s t d) (Clear c)) g.holdings h.holdings (refuses es g h s t d) BadState (bad_clear c) _ _ _ refl (keeps es g h s t d)
  pass_same (Export c) =
      export-both ((Of es g h s t d) (Export c)) g.holdings h.holdings (refuses es g h s t d) d.resources d.records g.tokens h.tokens d.tokens c (few-tokens es g h s t d) (λ r e.
      let f : live c.handle g.holdings ≡ found r = d.resources c.handle ∙ e in
      rw (f, e) (record {
        verdict = refl;
        held = record { resources = d.resources; records = d.records; target = d.target; tokens = same-with-token c.token r.lowest g.tokens h.tokens d.tokens };
      }))
  pass_same (Import c) =
      import-both ((Of es g h s t d) (Import c)) g.holdings h.holdings (refuses es g h s t d) d.resources d.records g.tokens h.tokens d.tokens c (few-names es g h s t d) (λ r e.
      let f : bound c.token g.tokens g.holdings.resources ≡ found r =
      bound-same ((Of es g h s t d) (Import c)) g.holdings h.holdings (refuses es g h s t d) d.resources d.records g.tokens h.tokens d.tokens c.token ∙ e in
      rw (f, e) (record {
        verdict = refl;
        held = record {
          resources = (names-with-same es g h s t d) c.handle r;
          records = d.records;
          target = d.target;
          tokens = same-rebound r.lowest (lower c.handle r.lowest) g.tokens h.tokens d.tokens;
        };
      }))
  pass_same (Release c) =
      release-both ((Of es g h s t d) (Release c)) g.holdings h.holdings (refuses es g h s t d) d.resources d.records g.tokens h.tokens d.tokens c (λ r e.
      let b = bound-is c.token h.tokens h.holdings.resources r e in
      record {
        verdict = refl;
        held = record { resources = d.resources; records = d.records; target = d.target; tokens = same-without-token c.token g.tokens h.tokens b.0 b.1 d.tokens };
      })
  pass_same NotANumber = (refuses es g h s t d) BadState
  pass_same Unknown = (keeps es g h s t d)

  -- and whatever the bytes left of a stream begin with
  pub take_same : (b : List ℕ) → SamePassed (take_packet es g b) (take_packet es h b)
  unfolding take_packet
  take_same b = by_frame (frame_of b)
    where
      by_frame : (f : Frame) → SamePassed (pass_frame es g b f) (pass_frame es h b f)
      by_frame (Ok (op, size)) = pass_same (packet_of op (take size b))
      by_frame (Err r) = (refuses es g h s t d) r
