-- The row in the registers: what it makes in the wires, and in the memories behind its edge.
use Rattle.joined_edges.specs.Row.{RowMakesWires, RowMakesMemories}
use Rattle.joined_edges.proofs.Made.{base_now, top_now, sigs_now, boxes_now, opened_now, words_now, first_now, second_now, cells_now}
use Rattle.joined_edges.proofs.Made.{forks_now}

pub row_wires : RowMakesWires
row_wires rows z start n b S R t r h = record {
  base = base_now rows z start n b h.declares S R h.settles t r h.going h.row h.among h.sound h.reads;
  top = top_now rows z start n b h.declares S R h.settles t r h.going h.row h.among h.sound h.reads;
  sigs = sigs_now rows z start n b h.declares S R h.settles t r h.going h.row h.among h.sound h.reads;
  boxes = boxes_now rows z start n b h.declares S R h.settles t r h.going h.row h.among h.sound h.reads;
  opened = opened_now rows z start n b h.declares S R h.settles t r h.going h.row h.among h.sound h.reads;
  words = words_now rows z start n b h.declares S R h.settles t r h.going h.row h.among h.sound h.reads;
}

-- what it leaves in the memories and for the next edge, where there is room for it
pub row_memories : RowMakesMemories
row_memories rows z start n product S R t r h ps there acts room room_forks =
    let f = forks_now rows z start n product h.declares S R h.settles t r h.going h.row h.among h.sound h.reads ps there acts room
    room_forks in
    record {
      first = first_now rows z start n product h.declares S R h.settles t r h.going h.row h.among h.sound h.reads ps there;
      second = second_now rows z start n product h.declares S R h.settles t r h.going h.row h.among h.sound h.reads ps there;
      cells = cells_now rows z start n product h.declares S R h.settles t r h.going h.row h.among h.sound h.reads acts room;
      forks = f.in_memory;
      depth = f.depth;
      fresh = f.fresh;
      innermost = f.innermost;
    }
