use mathlib.Core.Path.{sym}
use native.Mathlib.Omega.{arith}
use lib.Seq.{length-take-le}
use Rattle.playback.specs.Playing.{part_ends, part_fits, reply_part, line_most, play_by}
use Rattle.playback.proofs.play.Goals as goal

pub overflow_add-end : goal.overflow_add-end
overflow_add-end c =
    let a = c.args in
    record {
      fits = omega (
        arith,
        c.requires.0.short,
        part_ends a.file.now a.place c.requires.0 c.requires.1 _ _ c.row_at-row.ensures.0
            c.kind_of-kind.ensures,
      );
    }

pub slice_bounds-obey-end : goal.slice_bounds-obey-end
slice_bounds-obey-end c =
    let a = c.args in
    omega (arith, part_ends a.file.now a.place c.requires.0 c.requires.1 _ _ c.row_at-row.ensures.0 c.kind_of-kind.ensures)

pub obey-word-requires : goal.obey-word-requires
obey-word-requires c =
    let a = c.args in
    part_fits a.file.now a.place c.requires.0 c.requires.1 _ _ c.row_at-row.ensures.0 c.kind_of-kind.ensures

pub slice_bounds-tell-end : goal.slice_bounds-tell-end
slice_bounds-tell-end c =
    let a = c.args in
    reply_part a.file.now a.place c.requires.0 c.requires.1 _ _ c.row_at-row.ensures.0 c.kind_of-kind.ensures
    a.state.now a.reply.now a.write_store.now a.read_store.now _ _ _ _ _ c.obey-word.ensures _ c.replied-n.ensures

pub slice_bounds-tell-end-2 : goal.slice_bounds-tell-end-2
slice_bounds-tell-end-2 c =
    let a = c.args in
    sym (length-take-le _ _ (reply_part a.file.now a.place c.requires.0 c.requires.1 _ _ c.row_at-row.ensures.0 c.kind_of-kind.ensures
    a.state.now a.reply.now a.write_store.now a.read_store.now _ _ _ _ _ c.obey-word.ensures _ c.replied-n.ensures))

pub tell-size-requires : goal.tell-size-requires
tell-size-requires c =
    let a = c.args in
    omega (
      arith,
      c.requires.2,
      line_most a.file.now a.place c.requires.0 c.requires.1 _ _ c.row_at-row.ensures.0 c.kind_of-kind.ensures
          a.state.now a.reply.now a.write_store.now a.read_store.now _ _ _ _ _ c.obey-word.ensures _ c.replied-n.ensures,
    )

pub returns : goal.returns
returns c =
    let a = c.args in
    play_by a.file.now a.place c.requires.0 c.requires.1 _ _ c.row_at-row.ensures.0 c.kind_of-kind.ensures
    a.state.now a.reply.now a.write_store.now a.read_store.now _ _ _ _ _ c.obey-word.ensures _
    c.replied-n.ensures _ _ _
    c.tell-size.ensures
